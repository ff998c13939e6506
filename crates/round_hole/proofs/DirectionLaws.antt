-- The direction of offsets x and y: the steps of the code, the two cases of a vertex, and the range of u and v.
use mathlib.Core.Path.{◌≡◌, refl}
use mathlib.Core.Bool.{true, false}
use mathlib.Core.List.{[], ◌∷◌}
use Prim.Native.Nat.{◌*◌, ◌≤◌}
use native.Mathlib.Nat.{le_refl}
use lib.Dec.{T, lit<, lit≤}
use lib.IntN.{ℤ, nat_abs}
use lib.Ieee.{Float, nan, inf, fin, binary64, up, down, fits, add, mul, div, lt, eq, le, of_bits}
use lib.Ieee.Fits.{add-fits, mul-fits}
use lib.Ieee.Scale.{finite}
use Rattle.num_root.specs.Root.{root}
use Rattle.num_float.specs.Units.{minus_sign}
use Rattle.num_float.specs.Within.{Within}
use Rattle.num_float.specs.Work.{Bounded}
use Rattle.num_float.proofs.NonNegative.{plus_nonneg, finite_number}
use Rattle.num_float.proofs.Order.{not_lt_le, le_trans, le_numbers}
use Rattle.num_float.proofs.Units.{round_sign}
use Rattle.num_float.proofs.Within.{add_within, mul_within, held_small}
use Rattle.num_norm.proofs.Component.{two_to_minus_484, over_root_1}
use Rattle.num_norm.proofs.RootUnits.{root_finite}
use Rattle.num_norm.proofs.Squares.{Term, sum_sign, first_le, last_term}
use Rattle.num_real.proofs.RoundingLaws.{round_within}
use Rattle.round_hole.specs.Direction.{e_6, scale, length_of, whole_part_of, direction_of, offset_directions}
use Rattle.round_hole.specs.Work.{Packable}

-- ---- the steps of `direction`
pub direction_whole : (x y length : Float) (u v u' v' : ℤ) → u ≡ whole_part_of x length → v ≡ whole_part_of y length → u' ≡ u → v' ≡ v
    → record { u = u'; v = v' } ≡ direction_of x y length
unfolding direction_of
direction_whole x y length u v u' v' p q p' q' = rw (p', q', p, q)

-- ---- a vertex near the axis gives no direction, and any other gives one
module _ (x y length : Float) (is : length ≡ length_of x y) where
  pub directions_short : lt length e_6 ≡ true → offset_directions x y ≡ []
  unfolding offset_directions
  directions_short h = rw (← is, h)

  pub directions_one : lt length e_6 ≡ false → offset_directions x y ≡ (direction_of x y length ∷ [])
  unfolding offset_directions
  directions_one h = rw (← is, h)

-- ---- u and v lie from -2^20 to 2^20
scale_within : Within scale 1048576
unfolding of_bits
scale_within = record { is_finite = tt; size = lit≤ tt }

-- 1e-6 is far above 2^-484
small_le : le two_to_minus_484 e_6 ≡ true
unfolding of_bits le lt eq
small_le = refl

-- a square has a plus sign
square_sign : (x : Float) → T (finite x) → T (finite (mul binary64 x x)) → minus_sign (mul binary64 x x) ≡ false
unfolding mul
square_sign nan p h = absurd p
square_sign (inf s) p h = absurd p
square_sign (fin true m e) p h = round_sign false (m * up e * (m * up e)) (down e * down e) h
square_sign (fin false m e) p h = round_sign false (m * up e * (m * up e)) (down e * down e) h

-- an offset that is at most the length, over the length and times 2^20
whole_within : (x length : Float) → Within (div binary64 x length) 1 → nat_abs (whole_part_of x length) ≤ 1048576
unfolding whole_part_of
whole_within x length w =
    let v = mul_within (div binary64 x length) scale 1 1048576 1048576 w scale_within (le_refl 1048576) (held_small 1048576 (lit< tt)) in
    round_within (mul binary64 (div binary64 x length) scale) 1048576 v.is_finite v.size

-- offsets of at most 2^20 mm; those of an accepted part are
module _ (x y : Float) (bx : Bounded x 1048576) (by : Bounded y 1048576) where
  abbrev xx : Float
  xx = mul binary64 x x

  abbrev yy : Float
  yy = mul binary64 y y

  abbrev s : Float
  s = add binary64 xx yy

  square_within : (c : Float) → Within c 1048576 → Within (mul binary64 c c) 1099511627776
  square_within c w = mul_within c c 1048576 1048576 1099511627776 w w (le_refl 1099511627776) (held_small 1099511627776 (lit< tt))

  sum_within : Within s 2199023255552
  sum_within =
      add_within xx yy 1099511627776 1099511627776 2199023255552 (square_within x bx.within) (square_within y by.within)
      (le_refl 2199023255552) (held_small 2199023255552 (lit< tt))

  sign : minus_sign xx ≡ false
  sign = square_sign x bx.within.is_finite (square_within x bx.within).is_finite

  at_x : Term x s
  at_x = record {
    is_finite = bx.within.is_finite;
    square_finite = (square_within x bx.within).is_finite;
    at_most = first_le xx y (mul-fits binary64 x x) sign sum_within.is_finite;
  }

  at_y : Term y s
  at_y = last_term xx y (mul-fits binary64 x x) sign sum_within.is_finite

  s_sign : minus_sign s ≡ false
  s_sign = sum_sign xx y (mul-fits binary64 x x) sign sum_within.is_finite

  long_enough : lt (root s) e_6 ≡ false → le two_to_minus_484 (root s) ≡ true
  long_enough h =
      le_trans two_to_minus_484 e_6 (root s) small_le
      (not_lt_le (root s) e_6
      (finite_number (root s) (root_finite s (add-fits binary64 xx yy) sum_within.is_finite (plus_nonneg s sum_within.is_finite s_sign)))
      (le_numbers two_to_minus_484 e_6 small_le).1 h)

  part_within : (c : Float) → T (fits binary64 c) → Term c s → lt (root s) e_6 ≡ false → nat_abs (whole_part_of c (root s)) ≤ 1048576
  part_within c f t h =
      whole_within c (root s) (over_root_1 c s f t (add-fits binary64 xx yy) sum_within.is_finite s_sign (long_enough h)).within

  pub direction_packable : lt (length_of x y) e_6 ≡ false → Packable (direction_of x y (length_of x y))
  unfolding direction_of length_of
  direction_packable h = record { u_within = part_within x bx.fit at_x h; v_within = part_within y by.fit at_y h }
