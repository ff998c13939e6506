-- A thickness reading beside the exact distance along its ray: item 11 of document 02. Definitions only, in whole numbers alone: `exact x` is the value
-- of x times 2^1074. The laws are in proofs/Readings.antt.
use Rattle.std.specs.Prelude.{ℕ, ◌*◌, ◌^◌, ◌≤◌, ◌<◌, ℤ, pos, nat_abs, ◌+ℤ◌, ◌-ℤ◌, ◌*ℤ◌, Float}
use Rattle.num_error.specs.Exact.{scale, exact, Number}
use Rattle.math.specs.declared.Vec3.{Vec3}
use Rattle.file_part.specs.Part.{Part}
use Rattle.solid_polygon.specs.declared.polygon.Plane.{Plane}
use Rattle.solid_faces.specs.Faces.{polygon_plane}
use Rattle.wall_ray.specs.declared.strike.Ray.{Ray}
use Rattle.wall_samples.specs.declared.cast.Reading.{Reading}
use Rattle.wall_samples.specs.Samples.{e_6, ray_of}

-- ---- the exact distance
-- "a fraction of two whole numbers"
pub record Fraction : Type 0 where
  pub numerator : ℤ
  pub denominator : ℤ

-- the exact dot product, times 2^2148
unfoldable pub exact_dot : Vec3 → Vec3 → ℤ
exact_dot a b = exact a.x *ℤ exact b.x +ℤ exact a.y *ℤ exact b.y +ℤ exact a.z *ℤ exact b.z

-- "the exact distance along the ray to that plane", "counted in lengths of the stored direction": the plane number less normal . start, over
-- normal . direction, both times 2^2148
unfoldable pub exact_distance : Plane → Ray → Fraction
exact_distance s r = record {
  numerator = exact s.w *ℤ pos scale -ℤ exact_dot s.normal r.origin;
  denominator = exact_dot s.normal r.dir;
}

-- normal and direction have an exact dot product of at least 1 / least in size
unfoldable pub Facing : ℕ → Plane → Ray → Type 0
Facing least s r = scale * scale ≤ least * nat_abs (exact_dot s.normal r.dir)

-- ---- how far x is off
-- x differs from f plus e by less than 1 / precision: |x - e - n / d| < 1 / precision, times |d| * 2^1074 * precision. No x does where d is 0.
unfoldable pub Near : ℕ → Float → Float → Fraction → Type 0
Near precision x e f = nat_abs ((exact x -ℤ exact e) *ℤ f.denominator -ℤ f.numerator *ℤ pos scale) * precision < nat_abs f.denominator * scale

-- ---- a reading of a part
-- each component is an f64, and neither a NaN nor an infinity
pub record Numbers (v : Vec3) : Type 0 where
  pub x_number : Number v.x
  pub y_number : Number v.y
  pub z_number : Number v.z

unfoldable pub ReadingFacing : ℕ → Part → Reading → Type 0
ReadingFacing least t r = Facing least (polygon_plane t r.hit) (ray_of t r.polygon)

-- "the struck polygon's stored normal and plane number and the ray's start and direction" are exact numbers, and the reading is near the exact distance
-- "plus the exact f64 1e-6"
pub record ReadingNear (precision : ℕ) (t : Part) (r : Reading) : Type 0 where
  pub normal : Numbers (polygon_plane t r.hit).normal
  pub plane_number : Number (polygon_plane t r.hit).w
  pub start : Numbers (ray_of t r.polygon).origin
  pub direction : Numbers (ray_of t r.polygon).dir
  pub thickness : Number r.thickness
  pub near : Near precision r.thickness e_6 (exact_distance (polygon_plane t r.hit) (ray_of t r.polygon))

-- ---- the figures
-- "an exact dot product of at least 0.02 in size": 0.02 is 1 / 50
abbrev pub least_dot : ℕ
least_dot = 50

-- "by less than 1e-7 mm": 1e-7 is 1 / 10^7
abbrev pub precision : ℕ
precision = 10 ^ 7

-- readings are kept from rays that meet the plane at no flatter angle than this: every one has a dot product of at least 1 / 3
abbrev pub kept_dot : ℕ
kept_dot = 3

-- so it is off by less than 1e-9 mm, a picometre
abbrev pub kept_precision : ℕ
kept_precision = 10 ^ 9
