-- A positive f64 in units of 2 ^ -1074: its value, and its digits brought to 53.
use Rattle.std.proofs.Common.{◌≡◌, ℕ, zero, suc, ◌+◌, ◌-◌, ◌*◌, ◌^◌, ◌<◌, ◌≤◌, false, T, ℤ, sym, refl, ap, ◌∙◌, subst, inl, inr, le_trans, le_of_eq, lt_of_lt_of_le, mul-le-mul_right, zero-lt-suc, mul_assoc, mul-pos, one-mul, not-le_of_lt, arith, pow_mono, pow-add, shl_lt}
use native.Mathlib.Nat.{eq_of_mul-eq-mul_right}
use lib.Ieee.{Float, nan, inf, fin, binary64, size, fits}
use lib.Ieee.Digits.{size-lt, size_reaches, size-le}
use lib.Ieee.Fits.{up_pos}
use lib.Ieee.Exact.{HasValue}
use lib.Ieee.Positive.{den, den_pos, first_pos}
use Rattle.num_float.specs.Units.{units}
use Rattle.num_float.proofs.Rounding.{value_cross}
use Rattle.num_float.proofs.Tests.{lt_or_ge}
use Rattle.num_float.proofs.Units.{exponent, fits_short, units_are, units_pos, units_shift, units_under}
use Rattle.num_root.specs.Nearest.{Holds}
use Rattle.num_root.proofs.Rounded.{one}

-- ---- a number n above 0 of units, with its digits brought to 53
pub record Digits53 (n : ℕ) : Type 0 where
  pub q : ℕ
  pub e : ℕ
  pub is : n * one ≡ q * 2 ^ e
  pub low : 2 ^ 52 ≤ q
  pub high : q < 2 ^ 53
  pub least : 1000 ≤ e
  pub most : e ≤ 3200

of_units : (n m j : ℕ) → n ≡ m * 2 ^ j → m < 2 ^ 53 → 0 < n → n < 2 ^ 2098 → Digits53 n
of_units n m j is few p h = go m j is few (first_pos m (2 ^ j) (subst (λ (x : ℕ). 0 < x) is p))
  where
    power_below : (m j : ℕ) → n ≡ m * 2 ^ j → 0 < m → j < 2098
    power_below m j e P = elim (lt_or_ge j 2098) [
      | inl l ↦ l
      | inr g ↦ absurd (not-le_of_lt h (le_trans (pow_mono g) (subst (λ (x : ℕ). 2 ^ j ≤ x) (sym e) (le_trans (le_of_eq (sym (one-mul (2 ^ j)))) (mul-le-mul_right (2 ^ j) P)))))
    ]

    digits : (m z : ℕ) → m < 2 ^ z → 0 < m → 0 < z
    digits m zero a P = absurd (omega arith)
    digits m (suc z) a P = omega arith

    pred_lt : (z : ℕ) → 0 < z → z - 1 < z
    pred_lt z Z = omega arith

    to_52 : (z : ℕ) → 0 < z → z ≤ 53 → 52 ≡ z - 1 + (53 - z)
    to_52 z a b = omega arith

    to_53 : (z : ℕ) → z ≤ 53 → z + (53 - z) ≡ 53
    to_53 z a = omega arith

    parts : (j d : ℕ) → d ≤ 52 → j + 1074 ≡ d + (j + 1074 - d)
    parts j d a = omega arith

    go : (m j : ℕ) → n ≡ m * 2 ^ j → m < 2 ^ 53 → 0 < m → Digits53 n
    go m j e f P =
        let z = size m in
        let d = 53 - z in
        let Z : 0 < z = digits m z (size-lt m) P in
        let z53 : z ≤ 53 = size-le m 53 f in
        let d52 : d ≤ 52 = omega arith in
        let J = power_below m j e P in
        record {
          q = m * 2 ^ d;
          e = j + 1074 - d;
          is =
              ap (λ (x : ℕ). x * one) e
              ∙ mul_assoc m (2 ^ j) (2 ^ 1074)
              ∙ ap (λ (x : ℕ). m * x) (sym (pow-add 2 j 1074) ∙ ap (λ (x : ℕ). 2 ^ x) (parts j d d52) ∙ pow-add 2 d (j + 1074 - d))
              ∙ sym (mul_assoc m (2 ^ d) (2 ^ (j + 1074 - d)));
          low = le_trans (le_of_eq (ap (λ (x : ℕ). 2 ^ x) (to_52 z Z z53) ∙ pow-add 2 (z - 1) d)) (mul-le-mul_right (2 ^ d) (size_reaches m (z - 1) (pred_lt z Z)));
          high = lt_of_lt_of_le (shl_lt z d (size-lt m)) (le_of_eq (ap (λ (x : ℕ). 2 ^ x) (to_53 z z53)));
          least = omega arith;
          most = omega arith;
        }

pub digits53 : (x : Float) → Holds x → 0 < units x → Digits53 (units x)
digits53 nan h p = absurd h.number
digits53 (inf s) h p = absurd h.number
digits53 (fin s m e) h p = of_units (units (fin s m e)) m (exponent e) (units_shift s m e) (fits_short s m e h.held) p (units_under (fin s m e) h.held)

-- ---- a float's value and its units
pub units_value : (x : Float) → Holds x → HasValue x false (units x) one
units_value nan h = absurd h.number
units_value (inf s) h = absurd h.number
units_value (fin s m e) h = (h.plus, units_are (fin s m e) h.held)

pub value_holds : (x : Float) (n : ℕ) → T (fits binary64 x) → HasValue x false n one → Holds x
value_holds nan n f h = absurd h
value_holds (inf s) n f h = absurd h
value_holds (fin s m e) n f h = record { held = f; number = tt; plus = h.0 }

pub value_units : (x : Float) (n : ℕ) → T (fits binary64 x) → HasValue x false n one → units x ≡ n
value_units x n f h = eq_of_mul-eq-mul_right (den x) (den_pos x) (units x) n (sym (units_are x f) ∙ value_cross x false n one h)

-- ---- a number above zero
pub above_zero : (m : ℕ) (e : ℤ) → T (fits binary64 (fin false (suc m) e)) → Holds (fin false (suc m) e)
above_zero m e h = record { held = h; number = tt; plus = refl }

pub some_units : (m : ℕ) (e : ℤ) → T (fits binary64 (fin false (suc m) e)) → 0 < units (fin false (suc m) e)
some_units m e h = units_pos (fin false (suc m) e) h (mul-pos (zero-lt-suc m) (up_pos e))
