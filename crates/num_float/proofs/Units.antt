-- An f64 is a whole number of units of 2 ^ -1074, below 2 ^ 2098, and rounding gives one.
use mathlib.Core.Path.{◌≡◌, refl, sym, ap, ◌∙◌, subst}
use mathlib.Core.Logic.{inl, inr}
use mathlib.Core.Bool.{Bool, ◌&&◌, cond}
use Prim.Native.Nat.{ℕ, zero, suc, ◌+◌, ◌-◌, ◌*◌, ◌/◌, ◌%◌, ◌^◌, ◌≤◌, ◌<◌}
use native.Mathlib.Nat.{le_trans, le_of_eq, lt_of_lt_of_le, lt_of_le_of_lt, lt_irrefl, zero-mul, mul-one, mul_assoc, mul_comm, mul_right_comm, mul-le-mul_right, mul-lt-mul_of_pos_right, lt_of_mul-lt-mul_right, le_of_mul-le-mul_right, eq_of_mul-eq-mul_right, mul-pos, sub-add_cancel, mul-div_cancel, not-le_of_lt}
use native.Mathlib.Omega.{arith}
use lib.IntN.{ℤ, pos, negsuc}
use lib.Dec.{T, ltb, leb, eqb, ltb→lt, leb→le}
use lib.Pow.{pow-add, pow_pos, pow-lt, pow_mono, shl_lt}
use lib.Ieee.{Float, nan, inf, fin, binary64, up, down, size, fits, round, of_bits, to_bits}
use lib.Ieee.Bits.{of_bits-to_bits}
use lib.Ieee.Fits.{down_pos, and_l, and_r, round-fits}
use lib.Ieee.Scale.{finite, grid}
use lib.Ieee.Positive.{num, den, den_pos, first_pos}
use Rattle.num_float.specs.Units.{units, minus_sign}
use Rattle.num_float.specs.Within.{Within}
use Rattle.num_float.specs.Work.{Bounded}
use Rattle.num_float.proofs.Tests.{lt_or_ge}
use Rattle.num_float.proofs.Rounding.{value_sign, value_cross, round_value, finite_under}

-- ---- what `fits` says of a float ±m * 2 ^ e that is not zero
module _ (m : ℕ) (e : ℤ) where
  abbrev is_odd : Bool
  is_odd = eqb (suc m % 2) 1

  abbrev is_short : Bool
  is_short = ltb (suc m) (2 ^ 53)

  abbrev is_fine : Bool
  is_fine = leb (down e) (2 ^ 1074)

  abbrev is_under : Bool
  is_under = ltb (suc m * up e) (2 ^ 1024 * down e)

-- m has at most 53 binary digits
pub fits_short : (s : Bool) (m : ℕ) (e : ℤ) → T (fits binary64 (fin s m e)) → m < 2 ^ 53
unfolding fits
fits_short s zero e f = pow_pos 53
fits_short s (suc m) e f = ltb→lt (suc m) (2 ^ 53) (and_r (is_odd m e) (is_short m e) (and_l (is_odd m e && is_short m e) (is_fine m e) (and_l (is_odd m e && is_short m e && is_fine m e) (is_under m e) f)))

-- the denominator is at most 2 ^ 1074
fits_fine : (s : Bool) (m : ℕ) (e : ℤ) → T (fits binary64 (fin s (suc m) e)) → down e ≤ 2 ^ 1074
unfolding fits
fits_fine s m e f = leb→le (down e) (2 ^ 1074) (and_r (is_odd m e && is_short m e) (is_fine m e) (and_l (is_odd m e && is_short m e && is_fine m e) (is_under m e) f))

-- the value is below 2 ^ 1024
fits_under : (s : Bool) (m : ℕ) (e : ℤ) → T (fits binary64 (fin s m e)) → m * up e < 2 ^ 1024 * down e
unfolding fits
fits_under s zero e f = lt_of_le_of_lt (le_of_eq (zero-mul (up e))) (mul-pos (pow_pos 1024) (down_pos e))
fits_under s (suc m) e f = ltb→lt (suc m * up e) (2 ^ 1024 * down e) (and_r (is_odd m e && is_short m e && is_fine m e) (is_under m e) f)

-- ---- an f64 is `units` units
pow_le_back : (i p : ℕ) → 2 ^ i ≤ 2 ^ p → i ≤ p
pow_le_back i p h = flip i p (λ (g : p < i). lt_irrefl (2 ^ p) (lt_of_lt_of_le (pow-lt g) h))
  where
    flip : (i p : ℕ) → (p < i → ⊥) → i ≤ p
    flip i p h = omega arith

deep : (m k : ℕ) → suc k ≤ 1074 → m * 1 * 2 ^ 1074 ≡ m * 2 ^ (1074 - suc k) * 2 ^ suc k
deep m k h =
    ap (λ (z : ℕ). z * 2 ^ 1074) (mul-one m)
    ∙ ap (λ (z : ℕ). m * 2 ^ z) (sym (sub-add_cancel h))
    ∙ ap (λ (z : ℕ). m * z) (pow-add 2 (1074 - suc k) (suc k))
    ∙ sym (mul_assoc m (2 ^ (1074 - suc k)) (2 ^ suc k))

-- num x / den x is units x / 2 ^ 1074
pub units_are : (x : Float) → T (fits binary64 x) → num x * 2 ^ 1074 ≡ units x * den x
units_are nan f = refl
units_are (inf s) f = refl
units_are (fin s m (pos k)) f = sym (mul-one (m * 2 ^ k * 2 ^ 1074))
units_are (fin s zero (negsuc k)) f = zero-mul (2 ^ 1074) ∙ sym (ap (λ (z : ℕ). z * 2 ^ suc k) (zero-mul (2 ^ (1074 - suc k))) ∙ zero-mul (2 ^ suc k))
units_are (fin s (suc m) (negsuc k)) f = deep (suc m) k (pow_le_back (suc k) 1074 (fits_fine s m (negsuc k) f))

-- there are fewer than 2 ^ 2098
pub units_under : (x : Float) → T (fits binary64 x) → units x < 2 ^ 2098
units_under nan f = pow_pos 2098
units_under (inf s) f = pow_pos 2098
units_under (fin s m e) f =
    lt_of_mul-lt-mul_right (down e)
    (lt_of_le_of_lt (le_of_eq (sym (units_are (fin s m e) f)))
    (lt_of_lt_of_le (mul-lt-mul_of_pos_right (fits_under s m e f) (pow_pos 1074))
    (le_of_eq (mul_right_comm (2 ^ 1024) (down e) (2 ^ 1074) ∙ ap (λ (z : ℕ). z * down e) (sym (pow-add 2 1024 1074))))))

-- the power of two in units x
pub exponent : ℤ → ℕ
exponent (pos k) = k + 1074
exponent (negsuc k) = 1074 - suc k

-- units x is m times it
pub units_shift : (s : Bool) (m : ℕ) (e : ℤ) → units (fin s m e) ≡ m * 2 ^ exponent e
unfolding exponent
units_shift s m (pos k) = mul_assoc m (2 ^ k) (2 ^ 1074) ∙ ap (λ (z : ℕ). m * z) (sym (pow-add 2 k 1074))
units_shift s m (negsuc k) = refl

-- from 2 ^ (52 + k) units on an f64 is a multiple of 2 ^ k units
pub units_multiple : (x : Float) (k : ℕ) → T (fits binary64 x) → 2 ^ (52 + k) ≤ units x → (w : ℕ) × (units x ≡ w * 2 ^ k)
units_multiple nan k f h = (0, sym (zero-mul (2 ^ k)))
units_multiple (inf s) k f h = (0, sym (zero-mul (2 ^ k)))
units_multiple (fin s m e) k f h =
    let j = exponent e in
    elim (lt_or_ge j k) [
      | inl l ↦ absurd (not-le_of_lt (subst (λ (n : ℕ). n < 2 ^ (53 + j)) (sym (units_shift s m e)) (shl_lt 53 j (fits_short s m e f))) (le_trans (pow_mono (room j k l)) h))
      | inr g ↦ (m * 2 ^ (j - k), units_shift s m e ∙ ap (λ (n : ℕ). m * n) (ap (λ (n : ℕ). 2 ^ n) (back j k g) ∙ pow-add 2 (j - k) k) ∙ sym (mul_assoc m (2 ^ (j - k)) (2 ^ k)))
    ]
  where
    room : (j k : ℕ) → j < k → 53 + j ≤ 52 + k
    room j k l = omega arith

    back : (j k : ℕ) → k ≤ j → j ≡ j - k + k
    back j k l = omega arith

-- two f64 of the same sign and as many units are one
pub units_unique : (x y : Float) → T (fits binary64 x) → T (fits binary64 y) → T (finite x) → T (finite y) → minus_sign x ≡ minus_sign y → units x ≡ units y → x ≡ y
units_unique x y f g p q s e = sym (of_bits-to_bits binary64 x f) ∙ ap (λ (b : ℕ). of_bits binary64 b) (bits x f p ∙ rw (s, e) (sym (bits y g q))) ∙ of_bits-to_bits binary64 y g
  where
    pattern : Bool → ℕ → ℕ
    pattern s n = cond s (2 ^ 63) 0 + (size n - 53) * 2 ^ 52 + n / 2 ^ (size n - 53)

    bits : (x : Float) → T (fits binary64 x) → T (finite x) → to_bits binary64 x ≡ pattern (minus_sign x) (units x)
    bits nan f p = absurd p
    bits (inf s) f p = absurd p
    bits (fin s m e) f p =
        unfold to_bits in
        ap (λ (n : ℕ). cond s (2 ^ 63) 0 + (size n - 53) * 2 ^ 52 + n / 2 ^ (size n - 53)) (ap (λ (k : ℕ). k / down e) (units_are (fin s m e) f) ∙ mul-div_cancel (units (fin s m e)) (down_pos e))

-- ---- sizes as fractions, and in units: num x / den x and num y / den y over the same denominator
module _ (x y : Float) (f : T (fits binary64 x)) (g : T (fits binary64 y)) where
  -- num x / den x in units
  pub left_units : num x * den y * 2 ^ 1074 ≡ units x * (den x * den y)
  left_units = mul_right_comm (num x) (den y) (2 ^ 1074) ∙ ap (λ (i : ℕ). i * den y) (units_are x f) ∙ mul_assoc (units x) (den x) (den y)

  -- num y / den y in units
  pub right_units : num y * den x * 2 ^ 1074 ≡ units y * (den x * den y)
  right_units = mul_right_comm (num y) (den x) (2 ^ 1074) ∙ ap (λ (i : ℕ). i * den x) (units_are y g) ∙ mul_assoc (units y) (den y) (den x) ∙ ap (λ (i : ℕ). units y * i) (mul_comm (den y) (den x))

  -- x is at most y in size, as fractions and in units
  pub units_le : num x * den y ≤ num y * den x → units x ≤ units y
  units_le h = le_of_mul-le-mul_right (le_trans (le_of_eq (sym left_units)) (le_trans (mul-le-mul_right (2 ^ 1074) h) (le_of_eq right_units))) (mul-pos (den_pos x) (den_pos y))

  -- x is at most C times y in size
  pub cross_of_units : (C : ℕ) → units x ≤ C * units y → num x * den y ≤ C * (num y * den x)
  cross_of_units C h =
      let k = den x * den y in
      le_of_mul-le-mul_right
      (le_trans (le_of_eq left_units)
      (le_trans (mul-le-mul_right k h) (le_of_eq (mul_assoc C (units y) k ∙ ap (λ (i : ℕ). C * i) (sym right_units) ∙ sym (mul_assoc C (num y * den x) (2 ^ 1074))))))
      (pow_pos 1074)

-- a bound b is b * 2 ^ 1074 units
pub bounded_units : (x : Float) (b : ℕ) → Bounded x b → units x ≤ b * 2 ^ 1074
bounded_units x b g =
    le_of_mul-le-mul_right
    (le_trans (le_of_eq (sym (units_are x g.fit))) (le_trans (mul-le-mul_right (2 ^ 1074) g.within.size) (le_of_eq (mul_right_comm b (den x) (2 ^ 1074)))))
    (den_pos x)

-- and back
pub units_within : (x : Float) (b : ℕ) → T (fits binary64 x) → T (finite x) → units x ≤ b * 2 ^ 1074 → Within x b
units_within x b f n h = record {
  is_finite = n;
  size = le_of_mul-le-mul_right (le_trans (le_of_eq (units_are x f)) (le_trans (mul-le-mul_right (den x) h) (le_of_eq (mul_right_comm b (2 ^ 1074) (den x))))) (pow_pos 1074);
}

-- an f64 above or below zero has units
pub units_pos : (x : Float) → T (fits binary64 x) → 0 < num x → 0 < units x
units_pos x f h = first_pos (units x) (den x) (subst (λ (k : ℕ). 0 < k) (units_are x f) (mul-pos h (pow_pos 1074)))

-- and back
pub num_pos : (x : Float) → T (fits binary64 x) → 0 < units x → 0 < num x
num_pos x f h = first_pos (num x) (2 ^ 1074) (subst (λ (k : ℕ). 0 < k) (sym (units_are x f)) (mul-pos h (den_pos x)))

-- ---- a rounded fraction ±a / b that is finite
module _ (s : Bool) (a b : ℕ) (F : T (finite (round binary64 s a b))) where
  abbrev r : Float
  r = round binary64 s a b

  -- has the sign of the fraction
  pub round_sign : minus_sign r ≡ s
  round_sign = value_sign r s (grid binary64 a b) (2 ^ 1074) (round_value s a b (finite_under s a b F))

  -- is `grid` units
  pub round_units : units r ≡ grid binary64 a b
  round_units =
      eq_of_mul-eq-mul_right (den r) (den_pos r) (units r) (grid binary64 a b)
      (sym (units_are r (round-fits binary64 s a b)) ∙ value_cross r s (grid binary64 a b) (2 ^ 1074) (round_value s a b (finite_under s a b F)))
