-- `rule_sheet::tight::put_tight_bends` meets its contract: the faults of the faces that are passed are put.
use Rattle.file_part.specs.Part.{part_of}
use Rattle.rule_sheet.proofs.TightLaws.{TightTo}
use Rattle.rule_sheet.proofs.tight.put_tight_bends.Given as goal

abbrev pub invariant-loop-face : goal.invariant-loop-face
invariant-loop-face l = TightTo (part_of l.file) l.sheet.thickness l.face l.initial.k l.initial.cells l.cells l.initial.numbers l.numbers l.k
