-- Laws of `min_of`, `max_of` and `abs_of`.
use mathlib.Core.Path.{◌≡◌, refl, sym, ap, ◌∙◌}
use mathlib.Core.Logic.{◌⊎◌, inl, inr}
use mathlib.Core.Bool.{Bool, true, false, not, ◌||◌, ◌&&◌, beq, cond, true≢false}
use Prim.Native.Nat.{ℕ, zero, suc, zero-le, suc-le-suc, ◌*◌, ◌^◌, ◌<◌}
use native.Mathlib.Nat.{le_trans, le_of_eq, zero-mul, mul-one, one-mul, mul-pos}
use native.Mathlib.Omega.{arith}
use lib.Dec.{T, eqb, eqb→eq, lit<}
use lib.Pow.{pow-lt}
use lib.IntN.{ℤ, pos, negsuc}
use lib.Ieee.{Float, nan, inf, fin, binary64, up, down, lt, eq, le, neg, is_nan, fits}
use lib.Ieee.Fits.{up_pos, down_pos}
use lib.Ieee.Scale.{finite}
use lib.Ieee.Positive.{num, den}
use borrow.Author.Tests.{eqb-true, eq-eqb}
use Rattle.num_float.specs.Within.{Within, Beyond}
use Rattle.num_float.proofs.Order.{lt_le, le_refl_number, not_lt_le}
use Rattle.num_float.proofs.Rounding.{le_values}
use Rattle.num_float.proofs.Within.{cond_within}
use Rattle.num_real.specs.Select.{min_of, max_of, abs_of}
use Rattle.num_real.proofs.CompareLaws.{zero_float, zero_size, negative_sign, minus_zero}

-- ---- the choice between a and b by a test, for `min` and `max` alike
module _ (a b : Float) (test : Bool) where
  pub chosen_nan : is_nan a ≡ true → b ≡ cond (is_nan a || test) b a
  chosen_nan h = rw h

  pub chosen_second : test ≡ true → b ≡ cond (is_nan a || test) b a
  chosen_second h = rw h (either_way (is_nan a))
    where
      either_way : (n : Bool) → b ≡ cond (n || true) b a
      either_way true = refl
      either_way false = refl

  pub chosen_first : is_nan a ≡ false → test ≡ false → a ≡ cond (is_nan a || test) b a
  chosen_first h k = rw (h, k)

-- ---- `min` and `max` give one of the two
cond_either : (a b : Float) (test : Bool) → (cond test b a ≡ a) ⊎ (cond test b a ≡ b)
cond_either a b true = inr refl
cond_either a b false = inl refl

pub min_either : (a b : Float) → (min_of a b ≡ a) ⊎ (min_of a b ≡ b)
unfolding min_of
min_either a b = cond_either a b (is_nan a || lt b a)

pub max_either : (a b : Float) → (max_of a b ≡ a) ⊎ (max_of a b ≡ b)
unfolding max_of
max_either a b = cond_either a b (is_nan a || lt a b)

-- ---- of a NaN and another value they give that value
pub min_nan_first : (b : Float) → min_of nan b ≡ b
unfolding min_of is_nan
min_nan_first b = refl

pub min_nan_second : (a : Float) → min_of a nan ≡ a
unfolding min_of is_nan lt
min_nan_second nan = refl
min_nan_second (inf s) = refl
min_nan_second (fin s m e) = refl

pub max_nan_first : (b : Float) → max_of nan b ≡ b
unfolding max_of is_nan
max_nan_first b = refl

pub max_nan_second : (a : Float) → max_of a nan ≡ a
unfolding max_of is_nan lt
max_nan_second nan = refl
max_nan_second (inf s) = refl
max_nan_second (fin s m e) = refl

-- ---- of two values that are no NaN they give the smaller and the larger
module _ (a b : Float) (A : is_nan a ≡ false) (B : is_nan b ≡ false) where
  pub min_le : (le (min_of a b) a ≡ true) × (le (min_of a b) b ≡ true)
  unfolding min_of
  min_le = rw A (by_test (lt b a) refl)
    where
      by_test : (t : Bool) → lt b a ≡ t → (le (cond t b a) a ≡ true) × (le (cond t b a) b ≡ true)
      by_test true h = (lt_le b a h, le_refl_number b B)
      by_test false h = (le_refl_number a A, not_lt_le b a B A h)

  pub le_max : (le a (max_of a b) ≡ true) × (le b (max_of a b) ≡ true)
  unfolding max_of
  le_max = rw A (by_test (lt a b) refl)
    where
      by_test : (t : Bool) → lt a b ≡ t → (le a (cond t b a) ≡ true) × (le b (cond t b a) ≡ true)
      by_test true h = (lt_le a b h, le_refl_number b B)
      by_test false h = (le_refl_number a A, not_lt_le a b A B h)

-- ---- and a bound on both is one on what they give
pub min_within : (a b : Float) (c : ℕ) → Within a c → Within b c → Within (min_of a b) c
unfolding min_of
min_within a b c p q = cond_within (is_nan a || lt b a) q p

pub max_within : (a b : Float) (c : ℕ) → Within a c → Within b c → Within (max_of a b) c
unfolding max_of
max_within a b c p q = cond_within (is_nan a || lt a b) q p

-- ---- the sign cleared, by the two tests of `abs`
pub abs_negative : (x : Float) → lt x zero_float ≡ true → neg x ≡ abs_of x
unfolding lt neg abs_of
abs_negative nan h = absurd (true≢false (sym h))
abs_negative (inf true) h = refl
abs_negative (inf false) h = absurd (true≢false (sym h))
abs_negative (fin s m e) h = ap (λ (t : Bool). fin (not t) m e) (negative_sign s m e h)

-- a zero that fits is written with the exponent 0
zero_exponent : (e : ℤ) → up e * down e ≡ 1 → e ≡ pos 0
zero_exponent (pos zero) h = refl
zero_exponent (pos (suc k)) h = absurd (omega (arith, mul-one (2 ^ suc k), pow-lt {i = 0} {j = suc k} (omega arith)))
zero_exponent (negsuc k) h = absurd (omega (arith, one-mul (2 ^ suc k), pow-lt {i = 0} {j = suc k} (omega arith)))

pub abs_zero : (x : Float) → T (fits binary64 x) → eq x zero_float ≡ true → zero_float ≡ abs_of x
unfolding eq fits abs_of
abs_zero nan f h = absurd (true≢false (sym h))
abs_zero (inf s) f h = absurd (true≢false (sym h))
abs_zero (fin s zero e) f h = ap (fin false 0) (sym (zero_exponent e (eqb→eq (up e * down e) 1 f)))
abs_zero (fin s (suc m) e) f h =
    let a = suc m * up e * 1 in
    let same : a ≡ 0 * 1 * down e = eqb-true a (0 * 1 * down e) (and_left (eqb a (0 * 1 * down e)) (beq s false || eqb a 0) h) in
    let above : 0 < suc m * up e = mul-pos (suc-le-suc zero-le) (up_pos e) in
    absurd (omega (arith, zero_size e))
  where
    and_left : (p q : Bool) → p && q ≡ true → p ≡ true
    and_left true q h = refl
    and_left false q h = h

pub abs_positive : (x : Float) → lt x zero_float ≡ false → eq x zero_float ≡ false → x ≡ abs_of x
unfolding lt eq abs_of
abs_positive nan h k = refl
abs_positive (inf true) h k = absurd (true≢false h)
abs_positive (inf false) h k = refl
abs_positive (fin true m e) h k =
    let a = m * up e * 1 in
    let none : m * up e ≡ 0 = minus_zero m e h in
    absurd (true≢false (sym (rw (eq-eqb a (0 * 1 * down e) (omega (arith, zero_size e)), eq-eqb a 0 (omega arith))) ∙ k))
abs_positive (fin false m e) h k = refl

-- ---- what `abs` keeps
pub abs_num : (x : Float) → num (abs_of x) ≡ num x
unfolding abs_of
abs_num nan = refl
abs_num (inf s) = refl
abs_num (fin s m e) = refl

pub abs_den : (x : Float) → den (abs_of x) ≡ den x
unfolding abs_of
abs_den nan = refl
abs_den (inf s) = refl
abs_den (fin s m e) = refl

pub abs_finite : (x : Float) → finite (abs_of x) ≡ finite x
unfolding abs_of
abs_finite nan = refl
abs_finite (inf s) = refl
abs_finite (fin s m e) = refl

pub abs_nan : (x : Float) → is_nan (abs_of x) ≡ is_nan x
unfolding abs_of is_nan
abs_nan nan = refl
abs_nan (inf s) = refl
abs_nan (fin s m e) = refl

pub abs_neg : (x : Float) → abs_of (neg x) ≡ abs_of x
unfolding abs_of neg
abs_neg nan = refl
abs_neg (inf s) = refl
abs_neg (fin s m e) = refl

pub abs_not_negative : (x : Float) → is_nan x ≡ false → le zero_float (abs_of x) ≡ true
unfolding abs_of is_nan le
abs_not_negative nan h = sym h
abs_not_negative (inf s) h = refl
abs_not_negative (fin s m e) h = le_values zero_float (fin false m e) 0 1 (m * up e) (down e) (refl, refl) (refl, refl) (lit< tt) (down_pos e) (le_trans (le_of_eq (zero-mul (down e))) zero-le)

-- bounds on the size hold of both
pub abs_within : (x : Float) (b : ℕ) → Within x b → Within (abs_of x) b
unfolding abs_of
abs_within nan b w = absurd w.is_finite
abs_within (inf s) b w = absurd w.is_finite
abs_within (fin s m e) b w = record { is_finite = tt; size = w.size }

pub abs_beyond : (x : Float) (b : ℕ) → Beyond (abs_of x) b → Beyond x b
unfolding abs_of
abs_beyond nan b w = absurd w.is_finite
abs_beyond (inf s) b w = absurd w.is_finite
abs_beyond (fin s m e) b w = record { is_finite = tt; size = w.size }
