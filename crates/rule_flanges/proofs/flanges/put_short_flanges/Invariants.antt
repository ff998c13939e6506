-- `rule_flanges::flanges::put_short_flanges` meets its contract: the faults of the faces that are passed are put.
use mathlib.Core.Path.{◌≡◌}
use Prim.Native.Nat.{◌+◌, ◌*◌, ◌≤◌}
use lib.ListN.{length}
use Rattle.file_part.specs.Part.{part_of}
use Rattle.rule_flanges.proofs.FlangeLaws.{BendsPut}
use Rattle.rule_flanges.proofs.flanges.put_short_flanges.Given as goal

abbrev pub invariant-loop-face : goal.invariant-loop-face
invariant-loop-face l = BendsPut (part_of l.file) l.sheet.thickness l.face l.initial.k l.initial.cells l.cells l.initial.numbers l.numbers l.k × (l.k ≤ l.initial.k + 2048 * l.face) × (length l.legs ≡ 6144)
