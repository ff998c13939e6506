-- `solid_faces::verdict::any_flat` meets its contract.
use Rattle.solid_polygon.specs.file_part.specs.Part.{part_of}
use Rattle.solid_faces.proofs.BodyLaws.{NoneFlat}
use Rattle.solid_faces.proofs.verdict.any_flat.Given as goal

abbrev pub invariant-loop-p : goal.invariant-loop-p
invariant-loop-p l = NoneFlat (part_of l.file) l.p
