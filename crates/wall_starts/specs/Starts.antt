-- Which polygons of a face the rays of `thickness_samples` start from, and in which order. Definitions only.
use Rattle.std.specs.Prelude.{cond, List, [], ◌∷◌, ◌++◌, ℕ, zero, suc, ◌/◌, max, eqb, Float}
use Rattle.std.specs.Float.{binary64}
use Rattle.std.specs.Float.Ieee.{add, mul, div, neg, of_bits}
use Rattle.num_real.specs.Rounding.{ceil_usize_of}
use Rattle.math.specs.Vector as vector
use Rattle.file_part.specs.Part.{Part}
use Rattle.list_sort.specs.Sorted.{in_order_of}
use Rattle.solid_faces.specs.Faces.{face_number, faces_of, face_area, polygon_area}

-- ---- how many rays a face gets
-- the areas of the first n faces, added
unfoldable pub areas_to : Part → ℕ → Float
areas_to t zero = vector.zero
areas_to t (suc n) = add binary64 (areas_to t n) (face_area t n)

unfoldable pub total_area_of : Part → Float
total_area_of t = areas_to t (faces_of t)

-- RAY_BUDGET: the f64 600
abbrev pub budget : Float
budget = of_bits binary64 0x4082_c000_0000_0000

-- at least one ray per face, the rest by area: `((f.area / total) * 600).ceil().max(1.0) as usize`
unfoldable pub share : Float → Float → ℕ
share area total = max 1 (ceil_usize_of (mul binary64 (div binary64 area total) budget))

unfoldable pub wanted : Part → ℕ → ℕ
wanted t f = share (face_area t f) (total_area_of t)

-- ---- the polygons of a face
-- those below n, rising
unfoldable pub polygons_to : Part → ℕ → ℕ → List ℕ
polygons_to t f zero = []
polygons_to t f (suc n) = cond (eqb (face_number t n) f) (polygons_to t f n ++ (n ∷ [])) (polygons_to t f n)

unfoldable pub face_polygons : Part → ℕ → List ℕ
face_polygons t f = polygons_to t f t.polygons

-- the first n polygons' areas, negated: the keys for an order by falling area
unfoldable pub falling_to : Part → ℕ → List Float
falling_to t zero = []
falling_to t (suc n) = falling_to t n ++ (neg (polygon_area t n) ∷ [])

-- by falling area, the lower number first where areas are equal
unfoldable pub ordered_polygons : Part → ℕ → List ℕ
ordered_polygons t f = in_order_of (falling_to t t.polygons) (face_polygons t f)

-- ---- every step-th: `(polys.len() / want).max(1)`
unfoldable pub step_of : ℕ → ℕ → ℕ
step_of n want = max 1 (n / want)
