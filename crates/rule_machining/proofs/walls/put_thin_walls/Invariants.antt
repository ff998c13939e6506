-- `rule_machining::walls::put_thin_walls` meets its contract: the faults of the walls that are passed are put.
use Prim.Native.Nat.{◌+◌, ◌-◌, ◌≤◌}
use Rattle.file_part.specs.Part.{part_of}
use Rattle.rule_machining.proofs.WallLaws.{WallsMet}
use Rattle.rule_machining.proofs.walls.put_thin_walls.Given as goal

abbrev pub invariant-loop-i : goal.invariant-loop-i
invariant-loop-i l = (l.i ≤ l.m) × WallsMet (part_of l.file) l.i l.initial.k l.initial.cells l.cells l.initial.numbers l.numbers l.k × (l.k ≤ l.initial.k + l.i)

abbrev pub decreases-loop-i : goal.decreases-loop-i
decreases-loop-i l = l.m - l.i
