-- The distance of a point from a segment, as `seg_distance` of dfm.rs computes it. Definitions only.
use Rattle.std.specs.Prelude.{cond, Float}
use Rattle.std.specs.Float.{binary64}
use Rattle.std.specs.Float.Ieee.{div, lt, of_bits}
use Rattle.math.specs.declared.Vec3.{Vec3}
use Rattle.math.specs.Vector.{zero, one, plus, minus, times, dot_of, length_sq_of, distance_of}

-- Rust's `clamp(0.0, 1.0)`: a bound only where the value is strictly outside, so minus zero stays
unfoldable pub clamp_unit : Float → Float
clamp_unit x = cond (lt x zero) zero (cond (lt one x) one x)

-- the f64 1e-18
abbrev pub e_18 : Float
e_18 = of_bits binary64 0x3c32_725d_d1d2_43ac

-- how far along the segment from a the point nearest to p lies, as a fraction of ab = b - a, where q is the square of its length
unfoldable pub along : Vec3 → Vec3 → Vec3 → Float → Float
along p a ab q = cond (lt q e_18) zero (clamp_unit (div binary64 (dot_of (minus p a) ab) q))

-- the point of the segment nearest to p
unfoldable pub nearest_on : Vec3 → Vec3 → Vec3 → Vec3
nearest_on p a b = plus a (times (minus b a) (along p a (minus b a) (length_sq_of (minus b a))))

unfoldable pub seg_distance : Vec3 → Vec3 → Vec3 → Float
seg_distance p a b = distance_of (nearest_on p a b) p
