-- The thickness of a sheet, as dfm.rs's `sheet_metal` finds it: "the part must be one thickness throughout". Definitions only.
-- A reading has its number among all readings of the part (`readings_of`).
use Rattle.std.specs.Prelude.{Bool, ◌&&◌, ◌||◌, cond, List, ℕ, zero, suc, ◌-◌, eqb, length, get_or, Float}
use Rattle.std.specs.Float.{binary64}
use Rattle.std.specs.Float.Ieee.{add, sub, mul, lt, of_bits}
use Rattle.num_real.specs.Select.{abs_of}
use Rattle.math.specs.Vector as vector
use Rattle.list_groups.specs.Groups.{passing}
use Rattle.list_sort.specs.Sorted.{in_order_of}
use Rattle.list_median.specs.Median.{weight_to}
use Rattle.file_part.specs.Part.{Part}
use Rattle.solid_faces.specs.Faces.{polygon_area}
use Rattle.solid_bodies.specs.Body.{some_below}
use Rattle.solid_edges.specs.Distance.{edge_distance}
use Rattle.wall_samples.specs.Samples.{polygon_centroid, readings_of}
use Rattle.wall_samples.specs.Stored.{reading}
use Rattle.wall_pairs.specs.Walls.{face_from, face_hit}
use Rattle.wall_median.specs.Rough.{thicknesses, areas, reading_median, rough_of}

-- the f64 0.6, 0.03 and 0.15
abbrev pub six_tenths : Float
six_tenths = of_bits binary64 0x3fe3_3333_3333_3333

abbrev pub three_hundredths : Float
three_hundredths = of_bits binary64 0x3f9e_b851_eb85_1eb8

abbrev pub fifteen_hundredths : Float
fifteen_hundredths = of_bits binary64 0x3fc3_3333_3333_3333

-- ---- `samples`: readings near their face's boundary are left out
-- `edge`: the least distance of the reading's point from the segments of its face
unfoldable pub reading_edge : Part → ℕ → Float
reading_edge t k = edge_distance t (face_from t k) (polygon_centroid t (reading (readings_of t) k).polygon)

-- `0.6 * rough`
unfoldable pub edge_limit : Part → Float
edge_limit t = mul binary64 six_tenths (rough_of t)

-- `edge > 0.6 * rough`
unfoldable pub is_kept : Part → ℕ → Bool
is_kept t k = lt (edge_limit t) (reading_edge t k)

unfoldable pub kept_readings : Part → List ℕ
kept_readings t = passing (is_kept t) (length (readings_of t))

-- ---- what is measured of those that are kept
-- `sorted`: by rising thickness, and in their order where it is the same
unfoldable pub sorted_readings : Part → List ℕ
sorted_readings t = in_order_of (thicknesses (readings_of t)) (kept_readings t)

-- `total`
unfoldable pub kept_area : Part → Float
kept_area t = weight_to (areas t (readings_of t)) (sorted_readings t) (length (kept_readings t))

-- `t`
unfoldable pub thickness_of : Part → Float
thickness_of t = reading_median t (kept_readings t)

-- `lo` and `hi`
unfoldable pub thinnest_of : Part → Float
thinnest_of t = (reading (readings_of t) (get_or (sorted_readings t) 0 0)).thickness

unfoldable pub thickest_of : Part → Float
thickest_of t = (reading (readings_of t) (get_or (sorted_readings t) (length (kept_readings t) - 1) 0)).thickness

-- ---- `off`: `(s.thickness - t).abs() > 0.03 * t`
unfoldable pub is_off_by : Float → Float → Bool
is_off_by thickness x = lt (mul binary64 three_hundredths thickness) (abs_of (sub binary64 x thickness))

unfoldable pub is_off : Part → ℕ → Bool
is_off t k = is_kept t k && is_off_by (thickness_of t) (reading (readings_of t) k).thickness

-- the weights of the numbers below n that pass the test, added in their order
unfoldable pub added_to : (ℕ → Bool) → (ℕ → Float) → ℕ → Float
added_to test weight zero = vector.zero
added_to test weight (suc k) = cond (test k) (add binary64 (added_to test weight k) (weight k)) (added_to test weight k)

-- `off_area`
unfoldable pub off_area_of : Part → Float
off_area_of t = added_to (is_off t) (λ k. polygon_area t (reading (readings_of t) k).polygon) (length (readings_of t))

-- `off_area > 0.15 * total`
unfoldable pub is_uneven : Part → Bool
is_uneven t = lt (mul binary64 fifteen_hundredths (kept_area t)) (off_area_of t)

-- `off.iter().flat_map(|s| [s.face, s.hit])`: some reading that is off goes from or to face f
unfoldable pub is_off_face : Part → ℕ → Bool
is_off_face t f = some_below (length (readings_of t)) (λ k. is_off t k && (eqb (face_from t k) f || eqb (face_hit t k) f))
