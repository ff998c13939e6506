-- `rule_flanges::flanges::put_legs` meets its contract: the faults of the legs that are passed are put.
use Prim.Native.Nat.{◌+◌, ◌≤◌}
use Rattle.file_part.specs.Part.{part_of}
use Rattle.rule_flanges.proofs.FlangeLaws.{LegsPut}
use Rattle.rule_flanges.proofs.flanges.put_legs.Given as goal

abbrev pub invariant-loop-i : goal.invariant-loop-i
invariant-loop-i l = LegsPut (part_of l.file) l.sheet.thickness l.turn.bend l.legs l.i l.initial.k l.initial.cells l.cells l.initial.numbers l.numbers l.k × (l.k ≤ l.initial.k + l.i)
