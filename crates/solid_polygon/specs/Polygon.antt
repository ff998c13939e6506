-- Sums over the corners of a polygon, in the Rust's order. Definitions only. A polygon's corners are a function c from their numbers, below n.
use Rattle.std.specs.Prelude.{cond, ℕ, zero, suc, ◌+◌, ◌-◌, eqb, pos, Float}
use Rattle.std.specs.Float.{binary64}
use Rattle.std.specs.Float.Ieee.{add, sub, mul, div, of_bits, of_int}
use Rattle.file_part.specs.math.specs.declared.Vec3.{Vec3}
use Rattle.file_part.specs.math.specs.Vector.{vec, one, zero_vec, plus, minus, times, over, cross_of, length_of}
use Rattle.file_part.specs.math.specs.Vector as vector

-- the corner after corner k of n; after the last comes the first
unfoldable pub after : ℕ → ℕ → ℕ
after n k = cond (eqb (k + 1) n) 0 (k + 1)

-- ---- `Polygon::new`: Newell's sum
unfoldable pub newell_step : Vec3 → Vec3 → Vec3 → Vec3
newell_step m a b =
    vec (add binary64 m.x (mul binary64 (sub binary64 a.y b.y) (add binary64 a.z b.z)))
    (add binary64 m.y (mul binary64 (sub binary64 a.z b.z) (add binary64 a.x b.x)))
    (add binary64 m.z (mul binary64 (sub binary64 a.x b.x) (add binary64 a.y b.y)))

-- over the first k sides
unfoldable pub newell_to : (ℕ → Vec3) → ℕ → ℕ → Vec3
newell_to c n zero = zero_vec
newell_to c n (suc k) = newell_step (newell_to c n k) (c k) (c (after n k))

unfoldable pub newell_of : (ℕ → Vec3) → ℕ → Vec3
newell_of c n = newell_to c n n

-- ---- centroids
-- the first k corners, added
unfoldable pub corners_to : (ℕ → Vec3) → ℕ → Vec3
corners_to c zero = zero_vec
corners_to c (suc k) = plus (corners_to c k) (c k)

-- n as f64
abbrev pub real : ℕ → Float
real n = of_int binary64 (pos n)

-- "`Polygon::new` divides by n"
unfoldable pub plane_centroid : (ℕ → Vec3) → ℕ → Vec3
plane_centroid c n = over (corners_to c n) (real n)

-- "Its centroid multiplies by one over n" (dfm.rs)
unfoldable pub centroid_of : (ℕ → Vec3) → ℕ → Vec3
centroid_of c n = times (corners_to c n) (div binary64 one (real n))

-- ---- `poly_area`: the triangles of a fan from corner 0
-- the f64 0.5
abbrev pub half : Float
half = of_bits binary64 0x3fe0_0000_0000_0000

-- the triangle of corners 0, k + 1 and k + 2
unfoldable pub triangle_area : (ℕ → Vec3) → ℕ → Float
triangle_area c k = mul binary64 (length_of (cross_of (minus (c (k + 1)) (c 0)) (minus (c (k + 2)) (c 0)))) half

unfoldable pub area_to : (ℕ → Vec3) → ℕ → Float
area_to c zero = vector.zero
area_to c (suc k) = add binary64 (area_to c k) (triangle_area c k)

unfoldable pub area_of_word : (ℕ → Vec3) → ℕ → Float
area_of_word c n = area_to c (n - 2)
