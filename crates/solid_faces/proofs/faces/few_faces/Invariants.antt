-- `solid_faces::faces::few_faces` meets its contract.
use Rattle.solid_polygon.specs.file_part.specs.Part.{part_of}
use Rattle.solid_faces.specs.Work.{Table}
use Rattle.solid_faces.proofs.faces.few_faces.Given as goal

abbrev pub invariant-loop-p : goal.invariant-loop-p
invariant-loop-p l = Table (part_of l.file) l.p l.count l.table
