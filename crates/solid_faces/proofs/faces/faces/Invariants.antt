-- `solid_faces::faces::faces` meets its contract.
use Rattle.solid_polygon.specs.file_part.specs.Part.{part_of}
use Rattle.solid_faces.specs.Kept.{FaceNumbers}
use Rattle.solid_faces.specs.Work.{from, Firsts, Table}
use Rattle.solid_faces.proofs.faces.faces.Given as goal

abbrev pub invariant-loop-p : goal.invariant-loop-p
invariant-loop-p l =
    Firsts (part_of l.file) l.p l.count (from l.mem l.polygons) × FaceNumbers (part_of l.file) l.p l.mem
    × Table (part_of l.file) l.p l.count l.table
