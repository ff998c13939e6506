-- The plane of a polygon, as `Polygon::new` makes it. Definitions only.
use Rattle.std.specs.Prelude.{Bool, ℕ, Float}
use Rattle.std.specs.Float.{binary64}
use Rattle.std.specs.Float.Ieee.{lt, of_bits}
use Rattle.file_part.specs.math.specs.declared.Vec3.{Vec3}
use Rattle.file_part.specs.math.specs.Vector.{over, dot_of, length_of}
use Rattle.solid_polygon.specs.declared.polygon.Plane.{Plane}
use Rattle.solid_polygon.specs.Polygon.{newell_of, plane_centroid}

-- the f64 1e-14
abbrev pub e_14 : Float
e_14 = of_bits binary64 0x3d06_849b_86a1_2b9b

-- "a normal sum shorter than 1e-14, gives None" (refusal 8)
unfoldable pub is_flat : (ℕ → Vec3) → ℕ → Bool
is_flat c n = lt (length_of (newell_of c n)) e_14

unfoldable pub normal_of : (ℕ → Vec3) → ℕ → Vec3
normal_of c n = over (newell_of c n) (length_of (newell_of c n))

-- normal and w
unfoldable pub plane_of : (ℕ → Vec3) → ℕ → Plane
plane_of c n = record { normal = normal_of c n; w = dot_of (normal_of c n) (plane_centroid c n) }
