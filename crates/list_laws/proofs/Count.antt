-- Laws on counts and on the lowest number that passes a test.
use mathlib.Core.Path.{◌≡◌, refl, sym, ◌∙◌, subst}
use mathlib.Core.Bool.{Bool, true, false, cond}
use mathlib.Core.Logic.{◌⊎◌, inl, inr}
use Prim.Native.Nat.{ℕ, zero, suc, ◌+◌, ◌≤◌, ◌<◌}
use native.Mathlib.Omega.{arith}
use native.Mathlib.Numerals.{add-one}
use native.Mathlib.Nat.{le_antisymm}
use lib.Dec.{eqb}
use borrow.Author.Tests.{eq-eqb, ne_eqb}
use Rattle.num_float.proofs.Tests.{contrary, lt_or_ge}
use Rattle.list_laws.specs.Below.{count_below, lowest_below}

-- ---- a count
pub count_none : (test : ℕ → Bool) → count_below 0 test ≡ 0
unfolding count_below
count_none test = refl

count_suc : (n : ℕ) (test : ℕ → Bool) → count_below (suc n) test ≡ cond (test n) (suc (count_below n test)) (count_below n test)
unfolding count_below
count_suc n test = refl

pub count_more : (n : ℕ) (test : ℕ → Bool) → test n ≡ true → count_below (n + 1) test ≡ count_below n test + 1
count_more n test h =
    let step : count_below (suc n) test ≡ suc (count_below n test) = rw (count_suc n test, h) in
    subst (λ (k : ℕ). count_below k test ≡ count_below n test + 1) (sym (add-one n)) (step ∙ sym (add-one (count_below n test)))

pub count_same : (n : ℕ) (test : ℕ → Bool) → test n ≡ false → count_below (n + 1) test ≡ count_below n test
count_same n test h = rw (add-one, count_suc n test, h)

step_le : (b : Bool) (n : ℕ) → (n ≤ cond b (suc n) n) × (cond b (suc n) n ≤ suc n)
step_le true n = (omega arith, omega arith)
step_le false n = (omega arith, omega arith)

pub count_le : (n : ℕ) (test : ℕ → Bool) → count_below n test ≤ n
count_le zero test = omega (arith, count_none test)
count_le (suc n) test = omega (arith, count_le n test, count_suc n test, (step_le (test n) (count_below n test)).1)

pub count_mono : (m n : ℕ) (test : ℕ → Bool) → m ≤ n → count_below m test ≤ count_below n test
count_mono m zero test h =
    let same : 0 ≡ m = omega (arith, h) in
    subst (λ (k : ℕ). count_below k test ≤ count_below 0 test) same (omega arith)
count_mono m (suc n) test h = go (count_mono m n test) (lt_or_ge n m)
  where
    go : (m ≤ n → count_below m test ≤ count_below n test) → (n < m) ⊎ (m ≤ n) → count_below m test ≤ count_below (suc n) test
    go before (inl above) =
        let same : suc n ≡ m = omega (arith, h, above) in
        subst (λ (k : ℕ). count_below k test ≤ count_below (suc n) test) same (omega arith)
    go before (inr below) = omega (arith, before below, count_suc n test, (step_le (test n) (count_below n test)).0)

-- fewer numbers than one that passes leave fewer that pass
pub count_less : (m n : ℕ) (test : ℕ → Bool) → m < n → test m ≡ true → count_below m test < count_below n test
count_less m n test l h = omega (arith, count_more m test h, count_mono (m + 1) n test (omega (arith, l)))

-- ---- the lowest
record Lowest (n : ℕ) (test : ℕ → Bool) (m : ℕ) : Type 0 where
  within : m ≤ n
  passes : m < n → test m ≡ true
  least : (i : ℕ) → i < m → test i ≡ false

lowest_step : (n : ℕ) (test : ℕ → Bool) (m : ℕ) → Lowest n test m → Lowest (suc n) test (cond (eqb m n) (cond (test n) n (suc n)) m)
lowest_step n test m h = go (lt_or_ge m n)
  where
    last : (b : Bool) → test n ≡ b → ((i : ℕ) → i < n → test i ≡ false) → Lowest (suc n) test (cond b n (suc n))
    last true e before = record { within = omega arith; passes = λ l. e; least = before }
    last false e before = record { within = omega arith; passes = λ l. absurd (omega (arith, l)); least = λ i l. each i l (lt_or_ge i n) }
      where
        each : (i : ℕ) → i < suc n → (i < n) ⊎ (n ≤ i) → test i ≡ false
        each i l (inl below) = before i below
        each i l (inr above) =
            let same : n ≡ i = omega (arith, l, above) in
            subst (λ (k : ℕ). test k ≡ false) same e

    go : (m < n) ⊎ (n ≤ m) → Lowest (suc n) test (cond (eqb m n) (cond (test n) n (suc n)) m)
    go (inl below) =
        let other : eqb m n ≡ false = ne_eqb m n (λ e. omega (arith, e, below)) in
        subst (λ (b : Bool). Lowest (suc n) test (cond b (cond (test n) n (suc n)) m)) (sym other)
        (record { within = omega (arith, below); passes = λ l. h.passes below; least = h.least })
    go (inr above) =
        let same : m ≡ n = le_antisymm h.within above in
        subst (λ (b : Bool). Lowest (suc n) test (cond b (cond (test n) n (suc n)) m)) (sym (eq-eqb m n same))
        (last (test n) refl (subst (λ (k : ℕ). (i : ℕ) → i < k → test i ≡ false) same h.least))

lowest : (n : ℕ) (test : ℕ → Bool) → Lowest n test (lowest_below n test)
unfolding lowest_below
lowest zero test = record { within = omega arith; passes = λ l. absurd (omega (arith, l)); least = λ i l. absurd (omega (arith, l)) }
lowest (suc n) test = lowest_step n test (lowest_below n test) (lowest n test)

pub lowest_le : (n : ℕ) (test : ℕ → Bool) → lowest_below n test ≤ n
lowest_le n test = (lowest n test).within

pub lowest_passes : (n : ℕ) (test : ℕ → Bool) → lowest_below n test < n → test (lowest_below n test) ≡ true
lowest_passes n test = (lowest n test).passes

pub lowest_least : (n : ℕ) (test : ℕ → Bool) (i : ℕ) → i < lowest_below n test → test i ≡ false
lowest_least n test = (lowest n test).least

-- a number that passes is no lower
pub lowest_below_lem : (n : ℕ) (test : ℕ → Bool) (i : ℕ) → test i ≡ true → lowest_below n test ≤ i
lowest_below_lem n test i h = go (lt_or_ge i (lowest_below n test))
  where
    go : (i < lowest_below n test) ⊎ (lowest_below n test ≤ i) → lowest_below n test ≤ i
    go (inl lower) = absurd (contrary h (lowest_least n test i lower))
    go (inr not_lower) = not_lower

pub lowest_is : (n : ℕ) (test : ℕ → Bool) (m : ℕ) → m ≤ n → (m < n → test m ≡ true) → ((i : ℕ) → i < m → test i ≡ false) → lowest_below n test ≡ m
lowest_is n test m l passes least = go (lt_or_ge m (lowest_below n test)) (lt_or_ge (lowest_below n test) m)
  where
    go : (m < lowest_below n test) ⊎ (lowest_below n test ≤ m) → (lowest_below n test < m) ⊎ (m ≤ lowest_below n test) → lowest_below n test ≡ m
    go (inl lower) other = absurd (contrary (passes (omega (arith, lower, lowest_le n test))) (lowest_least n test m lower))
    go (inr le) (inl higher) = absurd (contrary (lowest_passes n test (omega (arith, higher, l))) (least (lowest_below n test) higher))
    go (inr le) (inr ge) = le_antisymm le ge
