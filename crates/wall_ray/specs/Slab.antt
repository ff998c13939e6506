-- The stretch of a ray within a box, by the Rust's slab formula (dfm.rs's `Bvh::raycast`). Definitions only.
use Rattle.std.specs.Prelude.{Bool, ◌&&◌, ◌||◌, cond, Float}
use Rattle.std.specs.Float.{binary64}
use Rattle.std.specs.Float.Ieee.{sub, mul, le, is_nan, of_bits}
use Rattle.num_real.specs.Select.{min_of, max_of}
use Rattle.math.specs.declared.Vec3.{Vec3}
use Rattle.math.specs.Vector as vector
use Rattle.solid_boxes.specs.declared.bounds.Bounds.{Bounds}
use Rattle.wall_ray.specs.declared.slab.Span.{Span}

-- ---- one axis
-- where the ray from o with the inverse direction i meets the bound x: `(lo - 1e-9 - o) * i`, with x for `lo - 1e-9`
unfoldable pub meets : Float → Float → Float → Float
meets x o i = mul binary64 (sub binary64 x o) i

-- `if a <= b { (a, b) } else { (b, a) }`
abbrev pub nearer : Float → Float → Float
nearer a b = cond (le a b) a b

abbrev pub farther : Float → Float → Float
farther a b = cond (le a b) b a

-- `t0.max(a)` and `t1.min(b)`; "An axis on which the slab formula meets a NaN (zero times infinity, the start on a bound) is passed and moves
-- neither end"
unfoldable pub moved : Span → Float → Float → Span
moved s a b = cond (is_nan a || is_nan b) s (record { t0 = max_of s.t0 (nearer a b); t1 = min_of s.t1 (farther a b) })

-- ---- the three axes
-- the f64 infinity: "with no best hit yet"
abbrev pub endless : Float
endless = of_bits binary64 0x7ff0_0000_0000_0000

-- the whole ray: `(0.0, best)`
abbrev pub whole_ray : Span
whole_ray = record { t0 = vector.zero; t1 = endless }

-- the bounds b are those of a box with 1e-9 outward already
unfoldable pub slab_of : Bounds → Vec3 → Vec3 → Span
slab_of b o i =
    moved
    (moved (moved whole_ray (meets b.lo.x o.x i.x) (meets b.hi.x o.x i.x)) (meets b.lo.y o.y i.y) (meets b.hi.y o.y i.y))
    (meets b.lo.z o.z i.z) (meets b.hi.z o.z i.z)

-- the ray passes the box: `t0 <= t1`
unfoldable pub passes : Span → Bool
passes s = le s.t0 s.t1

-- "only if the ray passes its own box .., and only if t is at least the entry distance found there"
unfoldable pub reached_in : Span → Float → Bool
reached_in s t = passes s && le s.t0 t
