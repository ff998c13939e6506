-- Which floats are not negative, and that finite ones of these are ordered as the fractions `num` / `den`.
use mathlib.Core.Path.{◌≡◌, refl, sym, ap, ◌∙◌, subst}
use mathlib.Core.Logic.{◌⊎◌, inl, inr}
use mathlib.Core.Bool.{Bool, true, false, true≢false}
use Prim.Native.Nat.{ℕ, suc, ◌+◌, ◌-◌, ◌*◌, ◌≤◌, ◌<◌, zero-le}
use native.Mathlib.Nat.{le_of_eq, le_refl, add-zero, zero-mul, mul-pos, ne_of_gt, zero-lt-suc}
use native.Mathlib.Omega.{arith}
use lib.IntN.{ℤ, pos}
use lib.Dec.{T, ltb, eqb}
use borrow.Author.Tests.{lt-ltb, ltb-true, eq-eqb, eqb-true}
use lib.Ieee.{Float, nan, inf, fin, up, down, lt, eq, le, is_nan, of_bits}
use lib.Ieee.Fits.{up_pos, down_pos}
use lib.Ieee.Scale.{finite}
use lib.Ieee.Positive.{num, den}
use Rattle.num_float.specs.Work.{place, position}
use Rattle.num_float.specs.Sign.{plus_zero, NonNeg}
use Rattle.num_float.specs.Units.{minus_sign}
use Rattle.num_float.proofs.Tests.{same_test}
use Rattle.num_float.proofs.Line.{Agree, agree, agree_two, lt→<, <→lt, le→≤, ≤→le}
use Rattle.num_float.proofs.Order.{le_trans, lt_le, le_not_lt, not_lt_le}

-- a finite float is no NaN
pub finite_number : (x : Float) → T (finite x) → is_nan x ≡ false
unfolding is_nan
finite_number nan f = absurd f
finite_number (inf s) f = absurd f
finite_number (fin s m e) f = refl

-- the constant 0.0 is the float +0 * 2 ^ 0
pub zero_is : plus_zero ≡ fin false 0 (pos 0)
unfolding of_bits
zero_is = refl

-- and so it is finite
pub zero_finite : T (finite plus_zero)
unfolding of_bits
zero_finite = tt

-- ---- zero against a finite float
-- a product with 0
pub scaled_zero : (n d : ℕ) → n ≡ 0 → n * d ≡ 0
scaled_zero n d e = ap (λ (k : ℕ). k * d) e ∙ zero-mul d

-- 0.0 stands at k + 1, and x = ±n / d at its place, for n units of 1 / d
against_zero : (s : Bool) (m : ℕ) (e : ℤ) → Agree plus_zero (fin s m e) (m * up e + 1) (place (m * up e) s (m * up e) + 1)
unfolding is_nan of_bits
against_zero s m e =
    let n = m * up e in
    subst (λ (i : ℕ). Agree plus_zero (fin s m e) i (place n s n + 1)) (ap (λ (i : ℕ). i + 1) (add-zero n))
    (agree (down e) n plus_zero (fin s m e) 0 n (down_pos e) (record { is = zero-mul (down e); most = zero-le }) (record { is = refl; most = le_refl n }) refl refl)

-- +m * 2 ^ e is not negative
pub nonneg_plus : (m : ℕ) (e : ℤ) → NonNeg (fin false m e)
nonneg_plus m e = ≤→le (against_zero false m e) (go (m * up e))
  where
    go : (n : ℕ) → n + 1 ≤ n + n + 1
    go n = omega arith

-- -m * 2 ^ e is not negative where it is a zero
pub nonneg_minus : (m : ℕ) (e : ℤ) → m * up e ≡ 0 → NonNeg (fin true m e)
nonneg_minus m e z = ≤→le (against_zero true m e) (go (m * up e) z)
  where
    go : (n : ℕ) → n ≡ 0 → n + 1 ≤ n - n + 1
    go n z = omega arith

-- and only there
pub minus_nonneg : (s : Bool) (m : ℕ) (e : ℤ) → NonNeg (fin s m e) → T s → m * up e ≡ 0
minus_nonneg false m e h t = absurd t
minus_nonneg true m e h t = go (m * up e) (le→≤ (against_zero true m e) h)
  where
    go : (n : ℕ) → n + 1 ≤ n - n + 1 → n ≡ 0
    go n h = omega arith

-- a float with a minus sign that is no zero is negative
pub minus_suc : (m : ℕ) (e : ℤ) → NonNeg (fin true (suc m) e) → ⊥
minus_suc m e h = ne_of_gt (mul-pos (zero-lt-suc m) (up_pos e)) (minus_nonneg true (suc m) e h tt)

-- both zeros are not negative
pub nonneg_zero : (s : Bool) (e : ℤ) → NonNeg (fin s 0 e)
nonneg_zero true e = nonneg_minus 0 e (zero-mul (up e))
nonneg_zero false e = nonneg_plus 0 e

-- a finite float whose sign is plus is not negative
pub plus_nonneg : (x : Float) → T (finite x) → minus_sign x ≡ false → NonNeg x
plus_nonneg nan n s = absurd n
plus_nonneg (inf t) n s = absurd n
plus_nonneg (fin true m e) n s = absurd (true≢false s)
plus_nonneg (fin false m e) n s = nonneg_plus m e

-- x <= y gives that y is not negative, for an x that is not
pub nonneg_above : (x y : Float) → NonNeg x → le x y ≡ true → NonNeg y
nonneg_above x y p h = le_trans plus_zero x y p h

-- ---- finite floats that are not negative are ordered as fractions
nonneg_place : (k : ℕ) (x : Float) (d : ℕ) → T (finite x) → NonNeg x → position k x (num x * d) ≡ k + num x * d + 1
nonneg_place k nan d f p = absurd f
nonneg_place k (inf s) d f p = absurd f
nonneg_place k (fin false m e) d f p = refl
nonneg_place k (fin true m e) d f p = go (m * up e * d) (scaled_zero (m * up e) d (minus_nonneg true m e p tt))
  where
    go : (u : ℕ) → u ≡ 0 → k - u + 1 ≡ k + u + 1
    go u z = omega arith

shifted : (x y : Float) (k i j : ℕ) → Agree x y (k + i + 1) (k + j + 1) → Agree x y i j
shifted x y k i j a = record {
  less = a.less ∙ less i j;
  more = a.more ∙ less j i;
  equal = a.equal ∙ same_test (eqb (k + i + 1) (k + j + 1)) (eqb i j) (λ h. eq-eqb i j (omega (arith, eqb-true (k + i + 1) (k + j + 1) h))) (λ h. eq-eqb (k + i + 1) (k + j + 1) (omega (arith, eqb-true i j h)));
}
  where
    less : (i j : ℕ) → ltb (k + i + 1) (k + j + 1) ≡ ltb i j
    less i j = same_test (ltb (k + i + 1) (k + j + 1)) (ltb i j) (λ h. lt-ltb i j (omega (arith, ltb-true (k + i + 1) (k + j + 1) h))) (λ h. lt-ltb (k + i + 1) (k + j + 1) (omega (arith, ltb-true i j h)))

-- x and y are ordered as num x * den y and num y * den x
pub as_fractions : (x y : Float) → T (finite x) → T (finite y) → NonNeg x → NonNeg y → Agree x y (num x * den y) (num y * den x)
as_fractions x y f g p q =
    let u = num x * den y in
    let v = num y * den x in
    let k = u + v in
    shifted x y k u v
    (subst (λ (i : ℕ). Agree x y i (k + v + 1)) (nonneg_place k x (den y) f p)
    (subst (λ (j : ℕ). Agree x y (position k x u) j) (nonneg_place k y (den x) g q)
    (agree_two x y (finite_number x f) (finite_number y g))))

-- ---- the least and the greatest float that is not negative
-- a zero of either sign is at most each float that is not negative
pub zero_least : (s : Bool) (e : ℤ) (y : Float) → NonNeg y → le (fin s 0 e) y ≡ true
unfolding of_bits
zero_least s e y q = le_trans (fin s 0 e) plus_zero y (≤→le (as_fractions (fin s 0 e) plus_zero tt tt (nonneg_zero s e) (nonneg_zero false (pos 0))) (go (up e) (down e))) q
  where
    go : (u d : ℕ) → 0 * u * 1 ≤ 0 * 1 * d
    go u d = le_of_eq (ap (λ (k : ℕ). k * 1) (zero-mul u) ∙ zero-mul 1 ∙ sym (ap (λ (k : ℕ). k * d) (zero-mul 1) ∙ zero-mul d))

-- infinity is at least each float that is not negative
pub infinity_greatest : (x : Float) → NonNeg x → le x (inf false) ≡ true
unfolding le lt eq of_bits
infinity_greatest nan p = p
infinity_greatest (inf true) p = refl
infinity_greatest (inf false) p = refl
infinity_greatest (fin s m e) p = refl

-- ---- above zero
-- 0.0 < x says that num x is above 0
pub above_num : (x : Float) → T (finite x) → lt plus_zero x ≡ true → 0 < num x
unfolding of_bits
above_num x n h = go (den x) (num x) (lt→< (as_fractions plus_zero x tt n (nonneg_zero false (pos 0)) (lt_le plus_zero x h)) h)
  where
    go : (d k : ℕ) → 0 * 1 * d < k * 1 → 0 < k
    go d k h = omega arith

-- and back, for an x that is not negative
pub num_above : (x : Float) → T (finite x) → NonNeg x → 0 < num x → lt plus_zero x ≡ true
unfolding of_bits
num_above x n p h = <→lt (as_fractions plus_zero x tt n (nonneg_zero false (pos 0)) p) (go (den x) (num x) h)
  where
    go : (d k : ℕ) → 0 < k → 0 * 1 * d < k * 1
    go d k h = omega arith

-- ---- sizes, whatever the signs
number : (s : Bool) (m : ℕ) (e : ℤ) → is_nan (fin s m e) ≡ false
number s m e = unfold is_nan in refl

-- x <= y, for an x with a plus sign: the size of x is at most that of y
pub plus_size_le : (m : ℕ) (e : ℤ) (t : Bool) (n : ℕ) (d : ℤ) → le (fin false m e) (fin t n d) ≡ true → m * up e * down d ≤ n * up d * down e
plus_size_le m e t n d h = go t (m * up e * down d) (n * up d * down e) (le→≤ (agree_two (fin false m e) (fin t n d) (number false m e) (number t n d)) h)
  where
    go : (t : Bool) (u v : ℕ) → u + v + u + 1 ≤ place (u + v) t v + 1 → u ≤ v
    go true u v h = omega arith
    go false u v h = omega arith

-- x <= y, for a y with a minus sign: the size of y is at most that of x
pub minus_size_le : (s : Bool) (m : ℕ) (e : ℤ) (n : ℕ) (d : ℤ) → le (fin s m e) (fin true n d) ≡ true → n * up d * down e ≤ m * up e * down d
minus_size_le s m e n d h = go s (m * up e * down d) (n * up d * down e) (le→≤ (agree_two (fin s m e) (fin true n d) (number s m e) (number true n d)) h)
  where
    go : (s : Bool) (u v : ℕ) → place (u + v) s u + 1 ≤ u + v - v + 1 → v ≤ u
    go true u v h = omega arith
    go false u v h = omega arith

-- a float is less than any of larger size with a plus sign
pub size_lt : (s : Bool) (m : ℕ) (e : ℤ) (n : ℕ) (d : ℤ) → m * up e * down d < n * up d * down e → lt (fin s m e) (fin false n d) ≡ true
size_lt s m e n d h = <→lt (agree_two (fin s m e) (fin false n d) (number s m e) (number false n d)) (go s (m * up e * down d) (n * up d * down e) h)
  where
    go : (s : Bool) (u v : ℕ) → u < v → place (u + v) s u + 1 < u + v + v + 1
    go true u v h = omega arith
    go false u v h = omega arith

-- ---- in the words of code's tests
-- not x < 0.0 says that x is not negative, or a NaN
pub not_negative : (x : Float) → lt x plus_zero ≡ false → (x ≡ nan) ⊎ NonNeg x
not_negative nan h = inl refl
not_negative (inf s) h = inr (not_lt_le (inf s) plus_zero (unfold is_nan in refl) (finite_number plus_zero zero_finite) h)
not_negative (fin s m e) h = inr (not_lt_le (fin s m e) plus_zero (number s m e) (finite_number plus_zero zero_finite) h)

-- what is not negative is not below zero
pub nonneg_not_lt : (x : Float) → NonNeg x → lt x plus_zero ≡ false
nonneg_not_lt x p = le_not_lt plus_zero x p
