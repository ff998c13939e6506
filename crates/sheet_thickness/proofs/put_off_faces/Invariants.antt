-- `sheet_thickness::put_off_faces` meets its contract.
use Rattle.file_part.specs.Part.{part_of}
use Rattle.sheet_thickness.proofs.FaceLaws.{MarkedTo}
use Rattle.sheet_thickness.proofs.put_off_faces.Given as goal

abbrev pub invariant-loop-k : goal.invariant-loop-k
invariant-loop-k l = MarkedTo (part_of l.file) l.at l.k l.initial.words l.words
