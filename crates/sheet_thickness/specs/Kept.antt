-- What the scratch holds of a sheet's readings, and what is found of its thickness. Definitions only.
use Rattle.std.specs.Prelude.{◌≡◌, cond, List, ℕ, ◌+◌, ◌≤◌, ◌<◌, length, get_or, Float, Result, Ok, Err}
use Rattle.std.specs.Float.{nan}
use Rattle.list_laws.specs.Region.{Outside}
use Rattle.file_part.specs.Part.{Part}
use Rattle.solid_faces.specs.Faces.{faces_of}
use Rattle.scratch.specs.declared.regions.Regions.{Regions}
use Rattle.wall_samples.specs.Samples.{readings_of}
use Rattle.sheet_thickness.specs.declared.Thickness.{Thickness}
use Rattle.sheet_thickness.specs.declared.NoneKept.{NoneKept}
use Rattle.sheet_thickness.specs.Thickness.{reading_edge, edge_limit, kept_readings, thickness_of, thinnest_of, thickest_of, is_uneven, is_off_face}

-- how far each reading's point is from the segments of its face
pub record Distances (t : Part) (at : Regions) (reals : List Float) : Type 0 where
  pub each : (k : ℕ) → k < length (readings_of t) → get_or reals (at.falling + k) nan ≡ reading_edge t k

-- what is measured of the readings that are kept, one at least
pub record ThicknessIs (t : Part) (r : Thickness) : Type 0 where
  pub some : 1 ≤ length (kept_readings t)
  pub kept : r.kept ≡ length (kept_readings t)
  pub limit : r.limit ≡ edge_limit t
  pub value : r.value ≡ thickness_of t
  pub thinnest : r.thinnest ≡ thinnest_of t
  pub thickest : r.thickest ≡ thickest_of t
  pub uneven : r.uneven ≡ is_uneven t

-- it is measured, where some reading is kept: where none is there is the limit alone. The distances stand, and of the scratch only the cells of the
-- order and the keys have changed
pub record Measured (t : Part) (at : Regions) (words words' : List ℕ) (reals reals' : List Float) (r : Result Thickness NoneKept) : Type 0 where
  pub none : (x : NoneKept) → r ≡ Err x → (length (kept_readings t) ≡ 0) × (x.limit ≡ edge_limit t)
  pub some : (x : Thickness) → r ≡ Ok x → ThicknessIs t x
  pub distances : Distances t at reals'
  pub words_kept : Outside 0 at.order at.kinds words words'
  pub reals_kept : Outside nan at.falling at.thickness reals reals'

-- 1 for each face of a reading that is off, 0 for the other faces
pub record OffFaces (t : Part) (at : Regions) (words : List ℕ) : Type 0 where
  pub each : (f : ℕ) → f < faces_of t → get_or words (at.order + f) 0 ≡ cond (is_off_face t f) 1 0
