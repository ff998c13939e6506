-- A cylinder's axis, and what `round` of dfm.rs asks of points about it. Definitions only. A polygon's corners are a function c from their
-- numbers.
use Rattle.std.specs.Prelude.{List, [], ◌++◌, true, false, ℕ, zero, suc, Float}
use Rattle.std.specs.Float.{inf, binary64}
use Rattle.std.specs.Float.Ieee.{add, sub, mul}
use Rattle.num_real.specs.Select.{min_of, max_of}
use Rattle.math.specs.declared.Vec3.{Vec3}
use Rattle.math.specs.Vector.{plus, minus, times, dot_of, cross_of, normalized_of, perpendicular_of}
use Rattle.solid_polygon.specs.Polygon.{half}
use Rattle.round_hole.specs.declared.direction.Direction.{Direction}
use Rattle.round_hole.specs.Direction.{offset_directions}
use Rattle.round_frame.specs.declared.frame.Frame.{Frame}
use Rattle.round_frame.specs.declared.extent.Extent.{Extent}
use Rattle.round_frame.specs.declared.measure.Measure.{Measure}

-- ---- the axis, and two directions across it
-- `axis.any_perpendicular().normalized()`: normalized twice, as the Rust has it
unfoldable pub across_of : Vec3 → Vec3
across_of axis = normalized_of (perpendicular_of axis)

-- `axis_dir.normalized()`, x, and y = axis × x
unfoldable pub frame_of : Vec3 → Vec3 → Frame
frame_of origin dir =
    record { origin = origin; axis = normalized_of dir; x = across_of (normalized_of dir); y = cross_of (normalized_of dir) (across_of (normalized_of dir)) }

-- ---- along the axis
-- `(v - origin).dot(axis)`
unfoldable pub height_of : Frame → Vec3 → Float
height_of a v = dot_of (minus v a.origin) a.axis

-- no height so far: `(f64::INFINITY, f64::NEG_INFINITY)`
unfoldable pub nowhere : Extent
nowhere = record { lo = inf false; hi = inf true }

-- one height more
unfoldable pub reach : Extent → Float → Extent
reach e h = record { lo = min_of e.lo h; hi = max_of e.hi h }

-- the first k corners more
unfoldable pub run_extent : Frame → (ℕ → Vec3) → Extent → ℕ → Extent
run_extent a c e zero = e
run_extent a c e (suc k) = reach (run_extent a c e k) (height_of a (c k))

-- axis, `hi - lo`, and `origin + axis * (0.5 * (lo + hi))`
unfoldable pub measure_of : Frame → Extent → Measure
measure_of a e =
    record {
      axis = a.axis;
      length = sub binary64 e.hi e.lo;
      centre = plus a.origin (times a.axis (mul binary64 half (add binary64 e.lo e.hi)));
    }

-- ---- away from the axis
-- `(c - origin) - axis * (c - origin).dot(axis)`
unfoldable pub radial_of : Frame → Vec3 → Vec3
radial_of a c = minus (minus c a.origin) (times a.axis (height_of a c))

-- `normal.dot(radial.normalized()) * area`, of a polygon with centroid c
unfoldable pub vote_of : Frame → Vec3 → Vec3 → Float → Float
vote_of a normal c area = mul binary64 (dot_of normal (normalized_of (radial_of a c))) area

-- ---- about the axis
-- the directions that a vertex gives, by its "offsets along x and y" (document 01, replacement 3): one, or none where it is "nearer the axis than
-- 1e-6 mm" (document 02, item 6)
unfoldable pub vertex_directions : Frame → Vec3 → List Direction
vertex_directions a v = offset_directions (dot_of (minus v a.origin) a.x) (dot_of (minus v a.origin) a.y)

-- of the first k corners
unfoldable pub run_directions : Frame → (ℕ → Vec3) → ℕ → List Direction
run_directions a c zero = []
run_directions a c (suc k) = run_directions a c k ++ vertex_directions a (c k)
