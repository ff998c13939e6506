-- Rounding moves no fraction past a float, and so a sum of floats that are not negative is no smaller than each of them.
use mathlib.Core.Path.{◌≡◌, refl, sym, ap, ◌∙◌, subst}
use mathlib.Core.Bool.{true, false, true≢false}
use Prim.Native.Nat.{ℕ, ◌+◌, ◌*◌, ◌^◌, ◌≤◌, ◌<◌}
use native.Mathlib.Nat.{le_trans, le_of_eq, mul_assoc, mul_comm, mul-le-mul_right, mul-pos, le-add_left, le-add_right}
use lib.IntN.{ℤ}
use lib.Dec.{T}
use lib.Ieee.{Float, nan, inf, fin, binary64, up, down, fits, round, sum, add}
use lib.Ieee.Bits.{is_true}
use lib.Ieee.Fits.{down_pos}
use lib.Ieee.Exact.{HasValue, round_exact}
use lib.Ieee.Order.{round_mono, transfer}
use lib.Ieee.Scale.{finite, grid}
use lib.Ieee.Positive.{num, den, den_pos}
use Rattle.num_float.specs.Units.{minus_sign}
use Rattle.num_float.proofs.Rounding.{value_cross, values_le, round_value, finite_under}
use Rattle.num_float.proofs.Units.{units_are, units_under, fits_short, exponent, units_shift}

-- the value of an f64, rounded, is itself
self : (m : ℕ) (e : ℤ) → T (fits binary64 (fin false m e)) → HasValue (round binary64 false (m * up e) (down e)) false (m * up e) (down e)
self m e f =
    round_exact binary64 false (m * up e) (down e) m (exponent e) (down_pos e) (fits_short false m e f)
    (subst (λ (z : ℕ). z < 2 ^ 2098) (units_shift false m e) (units_under (fin false m e) f))
    (units_are (fin false m e) f ∙ ap (λ (z : ℕ). z * down e) (units_shift false m e))

-- a fraction a / c that is no smaller than x rounds to a float that is no smaller
pub round_grows : (x : Float) (a c : ℕ) → T (fits binary64 x) → T (finite x) → minus_sign x ≡ false → 0 < c → num x * c ≤ a * den x → T (finite (round binary64 false a c))
    → num x * den (round binary64 false a c) ≤ num (round binary64 false a c) * den x
round_grows nan a c f n s C h k = absurd n
round_grows (inf t) a c f n s C h k = absurd n
round_grows (fin true m e) a c f n s C h k = absurd (true≢false s)
round_grows (fin false m e) a c f n s C h k =
    let x = round binary64 false (m * up e) (down e) in
    let y = round binary64 false a c in
    let w = round_value false a c (finite_under false a c k) in
    transfer (m * up e) (num y) (down e) (den y) (m * up e) (grid binary64 a c) (down e) (2 ^ 1074) (down_pos e) (lib.Pow.pow_pos 1074) refl (value_cross y false (grid binary64 a c) (2 ^ 1074) w)
    (values_le x y (m * up e) (down e) (grid binary64 a c) (2 ^ 1074) (self m e f) w (is_true (lib.Ieee.le x y) (round_mono binary64 (m * up e) (down e) a c (down_pos e) C h)))

-- ---- x + y, for x and y with no minus sign
module _ (x y : Float) (p : T (finite x)) (q : T (finite y)) (s : minus_sign x ≡ false) (t : minus_sign y ≡ false) (h : T (finite (add binary64 x y))) where
  sum_is : add binary64 x y ≡ round binary64 false (num x * den y + num y * den x) (den x * den y)
  sum_is = go x y p q s t
    where
      go : (x y : Float) → T (finite x) → T (finite y) → minus_sign x ≡ false → minus_sign y ≡ false → add binary64 x y ≡ round binary64 false (num x * den y + num y * den x) (den x * den y)
      go nan y p q s t = absurd p
      go (inf u) y p q s t = absurd p
      go (fin true m e) y p q s t = absurd (true≢false s)
      go (fin false m e) nan p q s t = absurd q
      go (fin false m e) (inf u) p q s t = absurd q
      go (fin false m e) (fin true n d) p q s t = absurd (true≢false t)
      go (fin false m e) (fin false n d) p q s t = unfold add in unfold sum in refl

  grows : (z : Float) → T (fits binary64 z) → T (finite z) → minus_sign z ≡ false → num z * (den x * den y) ≤ (num x * den y + num y * den x) * den z
      → num z * den (add binary64 x y) ≤ num (add binary64 x y) * den z
  grows z f n u k =
      subst (λ (r : Float). num z * den r ≤ num r * den z) (sym sum_is)
      (round_grows z (num x * den y + num y * den x) (den x * den y) f n u (mul-pos (den_pos x) (den_pos y)) k (subst (λ (r : Float). T (finite r)) sum_is h))

  -- is no smaller than x
  pub add_grows_left : T (fits binary64 x) → num x * den (add binary64 x y) ≤ num (add binary64 x y) * den x
  add_grows_left f =
      grows x f p s
      (le_trans (le_of_eq (ap (λ (z : ℕ). num x * z) (mul_comm (den x) (den y)) ∙ sym (mul_assoc (num x) (den y) (den x)))) (mul-le-mul_right (den x) (le-add_right (num x * den y) (num y * den x))))

  -- is no smaller than y
  pub add_grows_right : T (fits binary64 y) → num y * den (add binary64 x y) ≤ num (add binary64 x y) * den y
  add_grows_right f = grows y f q t (le_trans (le_of_eq (sym (mul_assoc (num y) (den x) (den y)))) (mul-le-mul_right (den y) (le-add_left (num y * den x) (num x * den y))))
