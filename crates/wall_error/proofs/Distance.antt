-- The distance t = (w - n . o) / (n . d) along a ray, rounded at each step, and t + e, beside the exact ones: for any dot product of at least 1 / least
-- and the precision for which its errors leave room.
use mathlib.Core.Path.{◌≡◌}
use Prim.Native.Nat.{ℕ, ◌+◌, ◌*◌, ◌/◌, ◌%◌, ◌^◌, ◌≤◌, ◌<◌}
use native.Mathlib.Nat.{le_refl, le_trans, le_of_eq, lt_of_lt_of_le, lt_of_le_of_lt, mul_assoc, mul-le-mul_right, mul-le-mul_left, le_of_mul-le-mul_right, add-le-add, div-add-mod'}
use native.Mathlib.Omega.{arith}
use lib.Dec.{lit<, lit≤}
use lib.Pow.{pow_pos}
use lib.Ieee.{Float, binary64, add, sub, div}
use lib.Ieee.Fits.{add-fits, sub-fits, div-fits}
use lib.Ieee.Positive.{num, den_pos, first_pos}
use Rattle.num_float.specs.Units.{units}
use Rattle.num_float.specs.Within.{Beyond}
use Rattle.num_float.specs.Work.{above, below, gap, Close, Bounded}
use Rattle.num_float.proofs.Units.{bounded_units}
use Rattle.num_float.proofs.Error.{div_error}
use Rattle.num_float.proofs.Within.{held_small, add_within, sub_within, div_within}
use Rattle.num_error.specs.Exact.{scale}
use Rattle.num_error.proofs.Terms.{close_wider, add_close, sub_close}
use Rattle.num_error.proofs.Quotient.{div_close}
use Rattle.math.specs.declared.Vec3.{Vec3}
use Rattle.math.specs.Vector.{dot_of}
use Rattle.wall_error.specs.Work.{VecBounded, dot_above, dot_below, product_error, first_error, last_error, dot_error, longest, top_error, quotient_error, growing_error, time_error, sum_error, Room}
use Rattle.wall_error.proofs.Parts.{rounded_beyond, sum_close, less, growing}
use Rattle.wall_error.proofs.Dot.{dot_bounded, dot_close, part, dot_closer, dir_room, start_room}

module _ (n o d : Vec3) (w e : Float) (N : VecBounded n 1) (O : VecBounded o 10002) (D : VecBounded d 1) (W : Bounded w 30000) (E : Bounded e 1)
    (least precision : ℕ) (room : Room least precision) (far : scale * scale ≤ least * gap (dot_above n d) (dot_below n d)) where
  -- the exact w - n . o is top_above - top_below, at the scale 2^2148
  abbrev pub top_above : ℕ
  top_above = above w * scale + dot_below n o

  abbrev pub top_below : ℕ
  top_below = below w * scale + dot_above n o

  -- ---- the numerator
  abbrev top : Float
  top = sub binary64 w (dot_of n o)

  bounded_start : Bounded (dot_of n o) 30006
  bounded_start = dot_bounded n o 10002 N O start_room

  bounded_top : Bounded top 60006
  bounded_top = record { fit = sub-fits binary64 w (dot_of n o); within = sub_within w (dot_of n o) 30000 30006 60006 W.within bounded_start.within (lit≤ tt) (held_small 60006 (lit< tt)) }

  top_close : Close (above top * scale) (below top * scale) top_above top_below top_error
  top_close =
      sub_close w (dot_of n o) 30000 30006 60006 (dot_above n o) (dot_below n o) (dot_error 10002 (last_error 10002)) (60006 * 2 ^ 1021 + 1) W bounded_start (lit≤ tt)
      (held_small 60006 (lit< tt)) (lit≤ tt) (dot_close n o 10002 N O start_room)

  -- ---- the denominator
  abbrev bottom : Float
  bottom = dot_of n d

  bounded_bottom : Bounded bottom 3
  bounded_bottom = dot_bounded n d 1 N D dir_room

  beyond_bottom : Beyond bottom (least + 1)
  beyond_bottom =
      rounded_beyond least bottom (dot_above n d) (dot_below n d) (dot_error 1 (last_error 1)) room.some bounded_bottom.fit bounded_bottom.within.is_finite
      (dot_close n d 1 N D dir_room) far room.denominator

  above_bottom : 0 < num bottom
  above_bottom = first_pos (num bottom) (least + 1) (lt_of_lt_of_le (den_pos bottom) beyond_bottom.size)

  -- ---- the quotient
  abbrev time : Float
  time = div binary64 top bottom

  bounded_time : Bounded time (longest least)
  bounded_time = record {
    fit = div-fits binary64 top bottom;
    within = div_within top bottom 60006 (least + 1) (longest least) bounded_top.within beyond_bottom (le_refl (longest least)) (held_small (longest least) (shorter (longest least) room.short));
  }
    where
      shorter : (k : ℕ) → k + 1 < 2 ^ 53 → k < 2 ^ 53
      shorter k h = omega arith

  quotient_room : units top * scale + 2 ^ 52 * units bottom ≤ quotient_error * 2 ^ 53
  quotient_room =
      le_trans (add-le-add (mul-le-mul_right scale (bounded_units top 60006 bounded_top)) (mul-le-mul_left (2 ^ 52) (bounded_units bottom 3 bounded_bottom))) (lit≤ tt)

  -- t times the part of the denominator's size
  part_small : units time * part n d 1 N D dir_room ≤ growing_error
  part_small =
      le_of_mul-le-mul_right
      (le_trans (le_of_eq (mul_assoc (units time) (units bottom / 2 ^ 53) (2 ^ 53)))
      (le_trans (mul-le-mul_left (units time) (whole_part (units bottom) (2 ^ 53)))
      (le_trans (from_gap (units time * units bottom) (units top * scale) quotient_error off)
      (le_trans (add-le-add (mul-le-mul_right scale (bounded_units top 60006 bounded_top)) (le_refl quotient_error)) (lit≤ tt)))))
      (pow_pos 53)
    where
      off : gap (units time * units bottom) (units top * scale) ≤ quotient_error
      off =
          le_of_mul-le-mul_right
          (le_trans
          (div_error top bottom bounded_top.fit bounded_bottom.fit bounded_top.within.is_finite bounded_bottom.within.is_finite above_bottom
          bounded_time.within.is_finite) quotient_room)
          (pow_pos 53)

      from_gap : (a b e : ℕ) → gap a b ≤ e → a ≤ b + e
      from_gap a b e h = omega arith

      whole_part : (n z : ℕ) → n / z * z ≤ n
      whole_part n z = go (n / z * z) (n % z) (div-add-mod' n z)
        where
          go : (q r : ℕ) → q + r ≡ n → q ≤ n
          go q r e = omega arith

  time_close : Close (above time * dot_above n d + below time * dot_below n d) (above time * dot_below n d + below time * dot_above n d)
      (top_above * scale) (top_below * scale) (time_error least)
  time_close =
      close_wider (above time * dot_above n d + below time * dot_below n d) (above time * dot_below n d + below time * dot_above n d) (top_above * scale) (top_below * scale)
      (units time * dot_error 1 (units bottom / 2 ^ 53 + 2 ^ 970) + quotient_error * scale + top_error * scale) (time_error least)
      (div_close top bottom top_above top_below (dot_above n d) (dot_below n d) top_error (dot_error 1 (units bottom / 2 ^ 53 + 2 ^ 970)) quotient_error
      bounded_top.fit bounded_bottom.fit bounded_top.within.is_finite bounded_bottom.within.is_finite above_bottom bounded_time.within.is_finite
      quotient_room top_close (dot_closer n d 1 N D dir_room (lit≤ tt)))
      (add-le-add (add-le-add
      (growing (units time) (units bottom / 2 ^ 53) (product_error 1 + product_error 1 + first_error 1 * scale + product_error 1) (2 ^ 970) (longest least) growing_error scale
      (bounded_units time (longest least) bounded_time) part_small)
      (le_refl (quotient_error * scale))) (le_refl (top_error * scale)))

  -- ---- the reading, t + e
  abbrev pub reading : Float
  reading = add binary64 time e

  pub bounded_reading : Bounded reading (longest least + 1)
  bounded_reading = record {
    fit = add-fits binary64 time e;
    within = add_within time e (longest least) 1 (longest least + 1) bounded_time.within E.within (le_refl (longest least + 1)) (held_small (longest least + 1) room.short);
  }

  reading_close : Close (above reading) (below reading) (above time + above e) (below time + below e) (sum_error least)
  reading_close =
      add_close time e (longest least * scale) (1 * scale) (sum_error least) bounded_time.fit E.fit bounded_time.within.is_finite E.within.is_finite
      bounded_reading.within.is_finite (bounded_units time (longest least) bounded_time) (bounded_units e 1 E) room.sum

  -- the reading less e, times n . d, differs from w - n . o by less than 1 / precision of n . d
  pub reading_error : gap ((above reading + below e) * dot_above n d + (below reading + above e) * dot_below n d + top_below * scale)
      ((above reading + below e) * dot_below n d + (below reading + above e) * dot_above n d + top_above * scale) * precision
      < gap (dot_above n d) (dot_below n d) * scale
  reading_error =
      lt_of_le_of_lt
      (mul-le-mul_right precision
      (sum_close (above reading) (below reading) (above time) (below time) (above e) (below e) (dot_above n d) (dot_below n d) (top_above * scale) (top_below * scale)
      (sum_error least) (time_error least) reading_close time_close))
      (less least precision (gap (dot_above n d) (dot_below n d)) scale (scale * scale) (sum_error least) (time_error least) _ far room.rest room.error)
