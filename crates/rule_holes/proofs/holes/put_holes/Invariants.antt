-- `rule_holes::holes::put_holes` meets its contract: the faults of the faces that are passed are put.
use mathlib.Core.Path.{◌≡◌}
use lib.ListN.{length}
use Rattle.file_part.specs.Part.{part_of}
use Rattle.rule_holes.specs.Work.{HolesTo}
use Rattle.rule_holes.proofs.holes.put_holes.Given as goal

abbrev pub invariant-loop-face : goal.invariant-loop-face
invariant-loop-face l = (length l.plates ≡ 1024) × HolesTo (part_of l.file) l.sheet.thickness l.face l.initial.k l.initial.cells l.cells l.initial.numbers l.numbers l.k
