-- What private functions leave on the way; a reader may pass over it. Definitions only.
use Rattle.std.specs.Prelude.{◌≡◌, List, ℕ, length}
use Rattle.file_part.specs.Part.{part_of}
use Rattle.solid_faces.specs.Faces.{Checked}
use Rattle.solid_faces.specs.Kept.{Faces}
use Rattle.solid_faces.specs.Work.{face_cells_of}

-- ---- beside Ids.antt
-- an accepted file and its faces; there is room for the first polygons of 1,024 faces
pub record KnownFaces (file faces : List ℕ) : Type 0 where
  pub checked : Checked file
  pub known : Faces (part_of file) faces
  pub long : length faces ≡ face_cells_of (part_of file).polygons
