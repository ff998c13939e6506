-- Comparisons of floats: of a value with itself, with zero and with a power of two.
use mathlib.Core.Path.{◌≡◌, refl, sym, ap, ◌∙◌, subst}
use mathlib.Core.Bool.{Bool, true, false, not}
use Prim.Native.Nat.{ℕ, ◌+◌, ◌*◌, ◌^◌, ◌≤◌, ◌<◌}
use native.Mathlib.Nat.{le_trans, le_of_eq, lt_of_not-le, zero-mul, one-mul, mul-one}
use native.Mathlib.Omega.{arith}
use lib.Dec.{T, lit<}
use lib.IntN.{ℤ, pos}
use lib.Ieee.{Float, nan, inf, fin, up, down, lt, eq, le, ne, is_nan}
use lib.Ieee.Fits.{down_pos}
use lib.Ieee.Exact.{HasValue}
use lib.Ieee.Order.{le_of_values}
use lib.Ieee.Positive.{above_of_le, le→cross}
use borrow.Author.Tests.{ltb-true, ltb-false, eq-eqb}

-- 0.0, as the library writes it
abbrev pub zero_float : Float
zero_float = fin false 0 (pos 0)

-- 2 ^ k, as the library writes it
abbrev pub power : ℕ → Float
power k = fin false 1 (pos k)

-- ---- a value and itself: `x != x` tells a NaN
eq_self : (x : Float) → eq x x ≡ not (is_nan x)
unfolding eq is_nan
eq_self nan = refl
eq_self (inf true) = refl
eq_self (inf false) = refl
eq_self (fin true m e) = rw (eq-eqb (m * up e * down e) (m * up e * down e) refl)
eq_self (fin false m e) = rw (eq-eqb (m * up e * down e) (m * up e * down e) refl)

pub ne_self : (x : Float) → ne x x ≡ is_nan x
unfolding ne
ne_self x = ap not (eq_self x) ∙ not_not (is_nan x)
  where
    not_not : (b : Bool) → not (not b) ≡ b
    not_not true = refl
    not_not false = refl

-- ---- zero

-- the size of zero over a common denominator
pub zero_size : (e : ℤ) → 0 * up (pos 0) * down e ≡ 0
zero_size e = zero-mul (down e)

-- only a number with a minus sign is below zero
pub negative_sign : (s : Bool) (m : ℕ) (e : ℤ) → lt (fin s m e) zero_float ≡ true → s ≡ true
unfolding lt
negative_sign true m e h = refl
negative_sign false m e h =
    absurd {A = false ≡ true} (omega (arith, ltb-true (m * up e * 1) (0 * 1 * down e) h, zero_size e))

-- a number with a minus sign that is not below zero is minus zero
pub minus_zero : (m : ℕ) (e : ℤ) → lt (fin true m e) zero_float ≡ false → m * up e ≡ 0
unfolding lt
minus_zero m e h = omega (arith, ltb-false 0 (m * up e * 1 + 0 * 1 * down e) h)

-- ---- a power of two
power_value : (k : ℕ) → HasValue (power k) false (2 ^ k) 1
power_value k = (refl, ap (λ (n : ℕ). n * 1) (one-mul (2 ^ k)))

pub below_power : (k : ℕ) (m : ℕ) (e : ℤ) → le (power k) (fin false m e) ≡ false → m * up e < 2 ^ k * down e
below_power k m e h =
    lt_of_not-le (λ (g : 2 ^ k * down e ≤ m * up e).
    subst T h (le_of_values (power k) (fin false m e) (2 ^ k) 1 (m * up e) (down e) (lit< tt) (down_pos e) (power_value k) (refl, refl)
    (le_trans g (le_of_eq (sym (mul-one (m * up e)))))))

pub from_power : (k : ℕ) (s : Bool) (m : ℕ) (e : ℤ) → le (power k) (fin s m e) ≡ true → (s ≡ false) × (2 ^ k * down e ≤ m * up e)
from_power k true m e h = absurd (above_of_le (power k) (fin true m e) tt (subst T (sym h) tt))
from_power k false m e h =
    let l : T (le (power k) (fin false m e)) = subst T (sym h) tt in
    let c : 1 * 2 ^ k * down e ≤ m * up e * 1 = le→cross (power k) (fin false m e) tt (above_of_le (power k) (fin false m e) tt l) l in
    (refl, le_trans (le_of_eq (ap (λ (n : ℕ). n * down e) (sym (one-mul (2 ^ k))))) (le_trans c (le_of_eq (mul-one (m * up e)))))
