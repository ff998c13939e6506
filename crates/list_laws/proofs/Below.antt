-- Laws on tests and sums over the numbers below n.
use mathlib.Core.Path.{◌≡◌, refl, sym, ◌∙◌, subst}
use mathlib.Core.Bool.{Bool, true, false, ◌&&◌}
use mathlib.Core.Logic.{◌⊎◌, inl, inr}
use Prim.Native.Nat.{ℕ, zero, suc, ◌+◌, ◌≤◌, ◌<◌}
use native.Mathlib.Omega.{arith}
use native.Mathlib.Numerals.{add-one}
use Rattle.num_float.proofs.Tests.{and_true, and_left, and_right, and_false_left, and_false_right, lt_or_ge}
use Rattle.list_laws.specs.Below.{all_below, sum_below}

-- ---- a test of all numbers below n
pub all_none : (test : ℕ → Bool) → all_below 0 test ≡ true
unfolding all_below
all_none test = refl

all_suc : (n : ℕ) (test : ℕ → Bool) → all_below (suc n) test ≡ (all_below n test && test n)
unfolding all_below
all_suc n test = refl

pub all_more : (n : ℕ) (test : ℕ → Bool) → all_below n test ≡ true → test n ≡ true → all_below (n + 1) test ≡ true
all_more n test h k = rw (add-one, all_suc n test, h, k)

pub all_each : (n : ℕ) (test : ℕ → Bool) → all_below n test ≡ true → (i : ℕ) → i < n → test i ≡ true
all_each zero test h i l = absurd (omega (arith, l))
all_each (suc n) test h i l = go (all_each n test (and_left (all_below n test) (test n) parts) i) (lt_or_ge i n)
  where
    parts : (all_below n test && test n) ≡ true
    parts = sym (all_suc n test) ∙ h

    go : (i < n → test i ≡ true) → (i < n) ⊎ (n ≤ i) → test i ≡ true
    go before (inl below) = before below
    go before (inr above) =
        let same : n ≡ i = omega (arith, l, above) in
        subst (λ (k : ℕ). test k ≡ true) same (and_right (all_below n test) (test n) parts)

pub all_fails : (n : ℕ) (test : ℕ → Bool) (i : ℕ) → i < n → test i ≡ false → all_below n test ≡ false
all_fails zero test i l h = absurd (omega (arith, l))
all_fails (suc n) test i l h = all_suc n test ∙ go (λ below. all_fails n test i below h) (lt_or_ge i n)
  where
    go : (i < n → all_below n test ≡ false) → (i < n) ⊎ (n ≤ i) → (all_below n test && test n) ≡ false
    go before (inl below) = and_false_left (all_below n test) (test n) (before below)
    go before (inr above) =
        let same : i ≡ n = omega (arith, l, above) in
        and_false_right (all_below n test) (test n) (subst (λ (k : ℕ). test k ≡ false) same h)

pub all_by : (n : ℕ) (test : ℕ → Bool) → ((i : ℕ) → i < n → test i ≡ true) → all_below n test ≡ true
all_by zero test each = all_none test
all_by (suc n) test each =
    all_suc n test ∙ and_true _ _ (all_by n test (λ i l. each i (omega (arith, l)))) (each n (omega arith))

-- ---- a sum over the numbers below n
pub sum_none : (term : ℕ → ℕ) → sum_below 0 term ≡ 0
unfolding sum_below
sum_none term = refl

sum_suc : (n : ℕ) (term : ℕ → ℕ) → sum_below (suc n) term ≡ sum_below n term + term n
unfolding sum_below
sum_suc n term = refl

pub sum_more : (n : ℕ) (term : ℕ → ℕ) → sum_below (n + 1) term ≡ sum_below n term + term n
sum_more n term = rw (add-one, sum_suc n term)

pub sum_within : (n : ℕ) (term : ℕ → ℕ) (i : ℕ) → i < n → sum_below i term + term i ≤ sum_below n term
sum_within zero term i l = absurd (omega (arith, l))
sum_within (suc n) term i l = go (sum_within n term i) (lt_or_ge i n)
  where
    go : (i < n → sum_below i term + term i ≤ sum_below n term) → (i < n) ⊎ (n ≤ i) → sum_below i term + term i ≤ sum_below (suc n) term
    go before (inl below) = omega (arith, sum_suc n term, before below)
    go before (inr above) =
        let same : n ≡ i = omega (arith, l, above) in
        subst (λ (k : ℕ). sum_below k term + term k ≤ sum_below (suc n) term) same (omega (arith, sum_suc n term))
