-- Whether some number below n passes a test: none, and one more.
use mathlib.Core.Path.{◌≡◌, refl}
use mathlib.Core.Bool.{Bool, true, false, ◌||◌, cond}
use mathlib.Core.Logic.{◌⊎◌, inl, inr}
use Prim.Native.Nat.{ℕ, suc, ◌+◌, ◌≤◌, ◌<◌}
use native.Mathlib.Nat.{le_antisymm}
use native.Mathlib.Omega.{arith}
use native.Mathlib.Numerals.{add-one}
use lib.Dec.{eqb, ltb}
use borrow.Author.Tests.{eq-eqb, ne_eqb, lt-ltb, le-ltb}
use Rattle.num_float.proofs.Tests.{lt_or_ge}
use Rattle.list_laws.specs.Below.{lowest_below}
use Rattle.list_laws.proofs.Count.{lowest_le}
use Rattle.solid_bodies.specs.Body.{some_below}

some_step : (m n : ℕ) (b : Bool) → m ≤ n → ltb (cond (eqb m n) (cond b n (suc n)) m) (suc n) ≡ (ltb m n || b)
some_step m n b l = go (lt_or_ge m n)
  where
    last : (b : Bool) → ltb (cond b n (suc n)) (suc n) ≡ b
    last true = lt-ltb n (suc n) (omega arith)
    last false = le-ltb (suc n) (suc n) (omega arith)

    go : (m < n) ⊎ (n ≤ m) → ltb (cond (eqb m n) (cond b n (suc n)) m) (suc n) ≡ (ltb m n || b)
    go (inl below) = rw (ne_eqb m n (λ e. omega (arith, e, below)), lt-ltb m n below, lt-ltb m (suc n) (omega (arith, below)))
    go (inr above) =
        let same : m ≡ n = le_antisymm l above in
        rw (eq-eqb m n same, le-ltb m n above, last b)

pub some_more : (n : ℕ) (test : ℕ → Bool) → some_below (n + 1) test ≡ (some_below n test || test n)
unfolding some_below lowest_below
some_more n test = rw (add-one) (some_step (lowest_below n test) n (test n) (lowest_le n test))

pub some_none : (test : ℕ → Bool) → some_below 0 test ≡ false
unfolding some_below lowest_below
some_none test = refl
