-- `rule_printing::small_holes::put_small_holes` meets its contract: the faults of the faces that are passed are put.
use Rattle.file_part.specs.Part.{part_of}
use Rattle.rule_printing.proofs.HoleLaws.{HolesTo}
use Rattle.rule_printing.proofs.small_holes.put_small_holes.Given as goal

abbrev pub invariant-loop-face : goal.invariant-loop-face
invariant-loop-face l = HolesTo (part_of l.file) l.face l.initial.k l.initial.cells l.cells l.initial.numbers l.numbers l.k
