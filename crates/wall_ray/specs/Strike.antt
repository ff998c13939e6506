-- Which polygons a ray strikes, each tried alone, and how far along: `raycast`'s test, and the polygon's own box. Definitions only.
use Rattle.std.specs.Prelude.{Bool, not, ◌&&◌, ℕ, Float}
use Rattle.std.specs.Float.{binary64}
use Rattle.std.specs.Float.Ieee.{sub, div, neg, lt, le, of_bits}
use Rattle.list_laws.specs.Below.{all_below}
use Rattle.num_real.specs.Select.{abs_of}
use Rattle.math.specs.declared.Vec3.{Vec3}
use Rattle.math.specs.Vector.{vec, one, plus, minus, times, dot_of, cross_of}
use Rattle.math.specs.Vector as vector
use Rattle.file_part.specs.Part.{Part}
use Rattle.solid_polygon.specs.declared.polygon.Plane.{Plane}
use Rattle.solid_polygon.specs.Polygon.{after}
use Rattle.solid_faces.specs.Faces.{polygon_corner, polygon_plane}
use Rattle.solid_boxes.specs.Bounds.{own_box_of, padded}
use Rattle.wall_ray.specs.declared.slab.Span.{Span}
use Rattle.wall_ray.specs.declared.strike.Ray.{Ray}
use Rattle.wall_ray.specs.Slab.{slab_of, reached_in}

-- the f64 1e-12
abbrev pub e_12 : Float
e_12 = of_bits binary64 0x3d71_9799_812d_ea11

-- the f64 1e-9
abbrev pub e_9 : Float
e_9 = of_bits binary64 0x3e11_2e0b_e826_d695

-- the ray runs along the plane: `denom.abs() < 1e-12`
unfoldable pub is_parallel : Plane → Ray → Bool
is_parallel s r = lt (abs_of (dot_of s.normal r.dir)) e_12

-- t: how far along the ray the plane is met, in lengths of its direction
unfoldable pub time_of : Plane → Ray → Float
time_of s r = div binary64 (sub binary64 s.w (dot_of s.normal r.origin)) (dot_of s.normal r.dir)

-- the point of the ray at t
unfoldable pub point_of : Ray → Float → Vec3
point_of r t = plus r.origin (times r.dir t)

-- q lies on the inner side of side k, of n corners c
unfoldable pub is_within : (ℕ → Vec3) → ℕ → Vec3 → Vec3 → ℕ → Bool
is_within c n normal q k = le (neg e_9) (dot_of (cross_of (minus (c (after n k)) (c k)) (minus q (c k))) normal)

-- t of polygon p
unfoldable pub hit_time : Part → Ray → ℕ → Float
hit_time t r p = time_of (polygon_plane t p) r

-- at t the ray is on the inner side of each side of polygon p
unfoldable pub is_inside : Part → Ray → ℕ → Bool
is_inside t r p =
    all_below (t.polygon p).count (is_within (polygon_corner t p) (t.polygon p).count (polygon_plane t p).normal (point_of r (hit_time t r p)))

-- `raycast`'s test of polygon p: the ray does not run along its plane, meets it at 0 or later, and there lies inside it
unfoldable pub crosses : Part → Ray → ℕ → Bool
crosses t r p = not (is_parallel (polygon_plane t p) r) && (not (lt (hit_time t r p) vector.zero) && is_inside t r p)

-- ---- the polygon's own box
-- `1.0 / dir`, component by component
unfoldable pub inverse_of : Ray → Vec3
inverse_of r = vec (div binary64 one r.dir.x) (div binary64 one r.dir.y) (div binary64 one r.dir.z)

-- the stretch of the ray within the own box of polygon p
unfoldable pub own_span : Part → Ray → ℕ → Span
own_span t r p = slab_of (padded (own_box_of t p)) r.origin (inverse_of r)

-- ---- the ray strikes polygon p: "a polygon is now struck only if the ray passes its own box (its vertices' lowest and highest coordinates, each
-- moved 1e-6 mm outward) by that formula with no best hit yet, and only if t is at least the entry distance found there"
unfoldable pub struck : Part → Ray → ℕ → Bool
struck t r p = crosses t r p && reached_in (own_span t r p) (hit_time t r p)
