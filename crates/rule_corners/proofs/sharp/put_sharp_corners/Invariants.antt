-- `rule_corners::sharp::put_sharp_corners` meets its contract: the faults of the faces passed are put.
use Prim.Native.Nat.{◌+◌, ◌-◌, ◌≤◌}
use Rattle.file_part.specs.Part.{part_of}
use Rattle.rule_corners.specs.Work.{SharpTo}
use Rattle.rule_corners.proofs.sharp.put_sharp_corners.Given as goal

abbrev pub invariant-loop-i : goal.invariant-loop-i
invariant-loop-i l = (l.i ≤ l.m) × (l.k ≤ l.initial.k + l.i) × SharpTo (part_of l.file) l.i l.initial.k l.k l.initial.cells l.cells l.initial.numbers l.numbers

abbrev pub decreases-loop-i : goal.decreases-loop-i
decreases-loop-i l = l.m - l.i
