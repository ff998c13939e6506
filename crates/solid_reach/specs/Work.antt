-- What private functions leave on the way; a reader may pass over it. Definitions only.
use Rattle.std.specs.Prelude.{◌≡◌, false, cond, List, ℕ, ◌+◌, get_or, set, Float}
use Rattle.std.specs.Float.{nan, binary64}
use Rattle.std.specs.Float.Ieee.{sub, lt, of_bits}
use Rattle.num_float.specs.Order.{lesser}
use Rattle.num_float.specs.Work.{greater}
use Rattle.math.specs.declared.Vec3.{Vec3}
use Rattle.math.specs.Vector.{vec, zero, one, plus, times, length_sq_of}
use Rattle.solid_distance.specs.declared.kept.Segment.{Segment}
use Rattle.solid_reach.specs.declared.reach.Reach.{Reach}

-- ---- the box of some segments. No distance is defined by it: `no_nearer` of the laws says which distances it spares.
-- the point of a segment at the fraction t of its way
unfoldable pub point_on : Segment → Float → Vec3
point_on s t = plus s.start (times s.way t)

-- ---- the box: none; with a point; with both ends of a segment
abbrev pub most : Float
most = of_bits binary64 0x7ff0_0000_0000_0000

abbrev pub least : Float
least = of_bits binary64 0xfff0_0000_0000_0000

unfoldable pub nowhere : Reach
nowhere = record { lo = vec most most most; hi = vec least least least }

unfoldable pub with_point : Reach → Vec3 → Reach
with_point r v =
    record {
      lo = vec (lesser r.lo.x v.x) (lesser r.lo.y v.y) (lesser r.lo.z v.z);
      hi = vec (greater r.hi.x v.x) (greater r.hi.y v.y) (greater r.hi.z v.z);
    }

unfoldable pub with_segment : Reach → Segment → Reach
with_segment r s = with_point (with_point r (point_on s zero)) (point_on s one)

-- ---- x, a point and a segment inside: not outside of a bound
pub record Spans (l h x : Float) : Type 0 where
  pub low : lt x l ≡ false
  pub high : lt h x ≡ false

pub record HoldsPoint (r : Reach) (v : Vec3) : Type 0 where
  pub on_x : Spans r.lo.x r.hi.x v.x
  pub on_y : Spans r.lo.y r.hi.y v.y
  pub on_z : Spans r.lo.z r.hi.z v.z

pub record Holds (r : Reach) (s : Segment) : Type 0 where
  pub start : HoldsPoint r (point_on s zero)
  pub end : HoldsPoint r (point_on s one)

-- ---- how far p is outside at least, squared
unfoldable pub gap_of : Float → Float → Float → Float
gap_of l h p = cond (lt zero (sub binary64 l p)) (sub binary64 l p) (cond (lt (sub binary64 h p) zero) (sub binary64 h p) zero)

unfoldable pub gap_square : Vec3 → Reach → Float
gap_square p r = length_sq_of (vec (gap_of r.lo.x r.hi.x p.x) (gap_of r.lo.y r.hi.y p.y) (gap_of r.lo.z r.hi.z p.z))

-- ---- in a list of numbers, six from number i on: its lowest and its highest coordinates
unfoldable pub reach_at : List Float → ℕ → Reach
reach_at l i =
    record {
      lo = vec (get_or l i nan) (get_or l (i + 1) nan) (get_or l (i + 2) nan);
      hi = vec (get_or l (i + 3) nan) (get_or l (i + 4) nan) (get_or l (i + 5) nan);
    }

-- the numbers with r there
unfoldable pub put_reach : List Float → ℕ → Reach → List Float
put_reach l i r =
    set (set (set (set (set (set l
    i r.lo.x) (i + 1) r.lo.y) (i + 2) r.lo.z) (i + 3) r.hi.x)
    (i + 4) r.hi.y) (i + 5) r.hi.z
