-- `rough` of dfm.rs's `sheet_metal`: the weighted median of all readings of a part. Definitions only.
use Rattle.std.specs.Prelude.{List, [], ◌∷◌, ◌++◌, ℕ, zero, suc, length, Float}
use Rattle.file_part.specs.Part.{Part}
use Rattle.solid_faces.specs.Faces.{polygon_area}
use Rattle.list_median.specs.Median.{median_of}
use Rattle.wall_samples.specs.declared.cast.Reading.{Reading}
use Rattle.wall_samples.specs.Samples.{readings_of}

-- ---- of a list of readings: each one's thickness, and the area of the polygon that it starts from
unfoldable pub thicknesses : List Reading → List Float
thicknesses [] = []
thicknesses (r ∷ rs) = r.thickness ∷ thicknesses rs

unfoldable pub areas : Part → List Reading → List Float
areas t [] = []
areas t (r ∷ rs) = polygon_area t r.polygon ∷ areas t rs

-- the numbers below n, rising
unfoldable pub numbers_to : ℕ → List ℕ
numbers_to zero = []
numbers_to (suc n) = numbers_to n ++ (n ∷ [])

-- the median of the readings with these numbers, their areas as weights; 0.0 where there is none
unfoldable pub reading_median : Part → List ℕ → Float
reading_median t xs = median_of (thicknesses (readings_of t)) (areas t (readings_of t)) xs

-- of all
unfoldable pub rough_of : Part → Float
rough_of t = reading_median t (numbers_to (length (readings_of t)))
