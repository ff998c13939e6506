-- Laws of the sine table and of `sine_of`. The table's rules are one test that is computed over all entries.
use mathlib.Core.Path.{◌≡◌, refl, sym, ap, ◌∙◌, subst}
use mathlib.Core.Bool.{Bool, true, false, ◌&&◌}
use mathlib.Core.Logic.{inl, inr}
use Prim.Native.Nat.{ℕ, zero, suc, zero-le, ◌+◌, ◌-◌, ◌*◌, ◌^◌, ◌≤◌, ◌<◌, min}
use native.Mathlib.Nat.{le_refl, le_trans, le_of_eq, le_of_suc-le-suc, lt_of_le_of_lt, lt_of_lt_of_le, eq-or-lt_of_le, mul-one, mul_assoc, mul_comm, mul-le-mul_right, mul-pos, add-zero, add-suc, min-eq_left, min-le_left, min-le_right, le-min}
use native.Mathlib.Omega.{arith}
use lib.Dec.{T, leb, leb→le, le→leb, lit<, lit≤}
use lib.Pow.{shl_lt}
use lib.IntN.{pos}
use lib.Ieee.{Float, nan, inf, fin, binary64, up, down, unlike, round, div, of_int, of_bits, le, in_float}
use lib.Ieee.Back.{round_whole}
use lib.Ieee.Exact.{HasValue, round_exact}
use lib.Ieee.Fits.{and_l, and_r, down_pos}
use lib.Ieee.Scale.{round_same}
use Rattle.num_float.proofs.Rounding.{le_values}
use Rattle.num_sine.specs.Table.{sine_table}
use Rattle.num_sine.specs.Sine.{entry, squares, sum_sine, Near, SineRules, sine_entry_of, sine_of}

-- 2 ^ k, as the library writes it
abbrev power : ℕ → Float
power k = fin false 1 (pos k)

-- ---- a test of every number below n
abbrev all_below : (ℕ → Bool) → ℕ → Bool
all_below test zero = true
all_below test (suc n) = test n && all_below test n

each_below : (test : ℕ → Bool) (n : ℕ) → T (all_below test n) → (k : ℕ) → k < n → T (test k)
each_below test zero t k h = absurd {A = T (test k)} (omega arith)
each_below test (suc n) t k h = elim (eq-or-lt_of_le (le_of_suc-le-suc h)) [
  | inl e ↦ subst (λ (i : ℕ). T (test i)) (sym e) (and_l (test n) (all_below test n) t)
  | inr l ↦ each_below test n (and_r (test n) (all_below test n) t) k l
]

-- ---- the rules as tests
abbrev near : ℕ → ℕ → Bool
near a b = leb a (b + 2 ^ 52) && leb b (a + 2 ^ 52)

near→Near : (a b : ℕ) → T (near a b) → Near a b
near→Near a b t = (
  leb→le a (b + 2 ^ 52) (and_l (leb a (b + 2 ^ 52)) (leb b (a + 2 ^ 52)) t),
  leb→le b (a + 2 ^ 52) (and_r (leb a (b + 2 ^ 52)) (leb b (a + 2 ^ 52)) t),
)

abbrev S : ℕ → ℕ
S k = entry sine_table k

abbrev rising_test : ℕ → Bool
rising_test k = leb (S k) (S (suc k))

abbrev squares_test : ℕ → Bool
squares_test k = near (squares sine_table k) (2 ^ 100)

abbrev sum_test : ℕ → Bool
sum_test k = near (2 ^ 50 * S (suc k)) (sum_sine sine_table k)

abbrev rising : Bool
rising = all_below rising_test 900

abbrev squares_near_lem : Bool
squares_near_lem = all_below squares_test 901

abbrev sum_near_lem : Bool
sum_near_lem = all_below sum_test 900

passes : T (rising && (squares_near_lem && sum_near_lem))
unfolding sine_table
passes = tt

pub sine_rules : SineRules sine_table
sine_rules =
    let rest : T (squares_near_lem && sum_near_lem) = and_r rising (squares_near_lem && sum_near_lem) passes in
    record {
      entries = unfold sine_table in refl;
      first = unfold sine_table in refl;
      last = unfold sine_table in refl;
      rising = λ k h. leb→le (S k) (S (suc k)) (each_below rising_test 900 (and_l rising (squares_near_lem && sum_near_lem) passes) k h);
      squares_near = λ k h. near→Near _ _ (each_below squares_test 901 (and_l squares_near_lem sum_near_lem rest) k (omega arith));
      sum_near = λ k h. near→Near _ _ (each_below sum_test 900 (and_r squares_near_lem sum_near_lem rest) k h);
    }

-- ---- entries never fall
rising_from : (i d : ℕ) → i + d ≤ 900 → S i ≤ S (i + d)
rising_from i zero h = le_of_eq (ap S (sym (add-zero i)))
rising_from i (suc d) h =
    let e : i + suc d ≡ suc (i + d) = add-suc i d in
    le_trans (rising_from i d (omega arith)) (le_trans (sine_rules.rising (i + d) (omega arith)) (le_of_eq (ap S (sym e))))

rising_to : (i j : ℕ) → i ≤ j → j ≤ 900 → S i ≤ S j
rising_to i j h l =
    let e : i + (j - i) ≡ j = omega arith in
    le_trans (rising_from i (j - i) (omega arith)) (le_of_eq (ap S e))

-- an angle of at most 90 degrees has its own entry
pub sine_entry_is : (k : ℕ) → k ≤ 900 → sine_entry_of k ≡ entry sine_table k
unfolding sine_entry_of
sine_entry_is k h = ap S (min-eq_left h)

pub sine_entry_mono : (i j : ℕ) → i ≤ j → sine_entry_of i ≤ sine_entry_of j
unfolding sine_entry_of
sine_entry_mono i j h = rising_to (min i 900) (min j 900) (le-min (le_trans (min-le_left i 900) h) (min-le_right i 900)) (min-le_right j 900)

pub sine_entry_at_most : (k : ℕ) → sine_entry_of k ≤ 2 ^ 50
unfolding sine_entry_of
sine_entry_at_most k = le_trans (rising_to (min k 900) 900 (min-le_right k 900) (le_refl 900)) (le_of_eq sine_rules.last)

-- ---- the sine as f64 is exactly the entry over 2 ^ 50
module _ (n : ℕ) (small : n ≤ 2 ^ 50) where
  few : n < 2 ^ 53
  few = lt_of_le_of_lt small (lit< tt)

  quotient_exact : HasValue (round binary64 false n (2 ^ 50)) false n (2 ^ 50)
  quotient_exact =
      round_exact binary64 false n (2 ^ 50) n 1024 (lit< tt) few (lt_of_lt_of_le (shl_lt 53 1024 few) (lit≤ tt)) (sym (mul_assoc n (2 ^ 1024) (2 ^ 50)))

  divided_exact : (x : Float) → HasValue x false n 1 → HasValue (div binary64 x (power 50)) false n (2 ^ 50)
  unfolding div
  divided_exact nan v = absurd v
  divided_exact (inf s) v = absurd v
  divided_exact (fin s m e) v =
      subst (λ (t : Bool). HasValue (round binary64 (unlike t false) (m * up e * 1) (2 ^ 50 * down e)) false n (2 ^ 50)) (sym v.0)
      (subst (λ (y : Float). HasValue y false n (2 ^ 50))
      (sym (round_same binary64 false (m * up e * 1) (2 ^ 50 * down e) n (2 ^ 50) (mul-pos (lit< tt) (down_pos e)) (lit< tt) same))
      quotient_exact)
    where
      same : m * up e * 1 * 2 ^ 50 ≡ n * (2 ^ 50 * down e)
      same = ap (λ (k : ℕ). k * 2 ^ 50) v.1 ∙ mul_assoc n (down e) (2 ^ 50) ∙ ap (λ (k : ℕ). n * k) (mul_comm (down e) (2 ^ 50))

pub sine_value : (k : ℕ) → HasValue (sine_of k) false (sine_entry_of k) (2 ^ 50)
unfolding sine_of of_int of_bits
sine_value k =
    divided_exact (sine_entry_of k) (sine_entry_at_most k) (round binary64 false (sine_entry_of k) 1)
    (round_whole binary64 false (sine_entry_of k) (le_trans (sine_entry_at_most k) (lit≤ tt)))

-- ---- from 0 to 1, and never falling
pub sine_not_negative : (k : ℕ) → le (fin false 0 (pos 0)) (sine_of k) ≡ true
sine_not_negative k = le_values (fin false 0 (pos 0)) (sine_of k) 0 1 (sine_entry_of k) (2 ^ 50) (refl, refl) (sine_value k) (lit< tt) (lit< tt) zero-le

pub sine_at_most_one : (k : ℕ) → le (sine_of k) (power 0) ≡ true
sine_at_most_one k =
    le_values (sine_of k) (power 0) (sine_entry_of k) (2 ^ 50) 1 1 (sine_value k) (refl, refl) (lit< tt) (lit< tt)
    (le_trans (le_of_eq (mul-one (sine_entry_of k))) (sine_entry_at_most k))

pub sine_mono : (i j : ℕ) → i ≤ j → le (sine_of i) (sine_of j) ≡ true
sine_mono i j h =
    le_values (sine_of i) (sine_of j) (sine_entry_of i) (2 ^ 50) (sine_entry_of j) (2 ^ 50) (sine_value i) (sine_value j) (lit< tt) (lit< tt)
    (mul-le-mul_right (2 ^ 50) (sine_entry_mono i j h))

-- an entry is a whole number that f64 counts without a gap
pub sine_entry_cast : (k : ℕ) → T (in_float binary64 (pos (sine_entry_of k)))
unfolding in_float
sine_entry_cast k = le→leb (sine_entry_of k) (2 ^ 53) (le_trans (sine_entry_at_most k) (lit≤ tt))
