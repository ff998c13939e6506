-- The readings in the lent scratch. Definitions only.
use Rattle.std.specs.Prelude.{◌≡◌, List, ℕ, ◌+◌, ◌<◌, length, get_or, Float}
use Rattle.std.specs.Float.{nan}
use Rattle.file_part.specs.Part.{Part}
use Rattle.solid_faces.specs.Faces.{polygon_area}
use Rattle.scratch.specs.declared.regions.Regions.{Regions}
use Rattle.wall_samples.specs.declared.cast.Reading.{Reading}
use Rattle.wall_samples.specs.Samples.{readings_of}

-- what is read past the end of a list of readings
abbrev pub none : Reading
none = record { polygon = 0; hit = 0; thickness = nan }

-- the k-th reading of a list
abbrev pub reading : List Reading → ℕ → Reading
reading l k = get_or l k none

-- a list of readings, one cell each in four regions
pub record Stored (t : Part) (at : Regions) (l : List Reading) (words : List ℕ) (reals : List Float) : Type 0 where
  pub polygons : (k : ℕ) → k < length l → get_or words (at.readings + k) 0 ≡ (reading l k).polygon
  pub hits : (k : ℕ) → k < length l → get_or words (at.hits + k) 0 ≡ (reading l k).hit
  pub thickness : (k : ℕ) → k < length l → get_or reals (at.thickness + k) nan ≡ (reading l k).thickness
  pub areas : (k : ℕ) → k < length l → get_or reals (at.weights + k) nan ≡ polygon_area t (reading l k).polygon

-- the readings of a part
pub record Readings (t : Part) (at : Regions) (words : List ℕ) (reals : List Float) : Type 0 where
  pub stored : Stored t at (readings_of t) words reals
