-- Whether some number below n passes a test: which, and tests that agree.
use mathlib.Core.Path.{◌≡◌, sym, ◌∙◌}
use mathlib.Core.Bool.{Bool, true, false}
use mathlib.Core.Logic.{◌⊎◌, inl, inr}
use Prim.Native.Nat.{ℕ, ◌≤◌, ◌<◌}
use native.Mathlib.Omega.{arith}
use borrow.Author.Tests.{lt-ltb, ltb-true}
use Rattle.num_float.proofs.Tests.{same_test, contrary, lt_or_ge}
use Rattle.list_laws.specs.Below.{lowest_below}
use Rattle.list_laws.proofs.Count.{lowest_passes, lowest_below_lem}
use Rattle.solid_bodies.specs.Body.{some_below}

pub some_by : (n : ℕ) (test : ℕ → Bool) (i : ℕ) → i < n → test i ≡ true → some_below n test ≡ true
unfolding some_below
some_by n test i l e = lt-ltb (lowest_below n test) n (omega (arith, l, lowest_below_lem n test i e))

pub some_which : (n : ℕ) (test : ℕ → Bool) → some_below n test ≡ true → (i : ℕ) × (i < n) × (test i ≡ true)
unfolding some_below
some_which n test h = let l : lowest_below n test < n = ltb-true _ _ h in (lowest_below n test, l, lowest_passes n test l)

pub some_alike : (n : ℕ) (f g : ℕ → Bool) → ((i : ℕ) → i < n → f i ≡ g i) → some_below n f ≡ some_below n g
some_alike n f g each =
    same_test (some_below n f) (some_below n g)
    (λ h. let w = some_which n f h in some_by n g w.0 w.1 (sym (each w.0 w.1) ∙ w.2))
    (λ h. let w = some_which n g h in some_by n f w.0 w.1 (each w.0 w.1 ∙ w.2))

-- none from k on passes
pub some_beyond : (k m : ℕ) (test : ℕ → Bool) → k ≤ m → ((j : ℕ) → k ≤ j → j < m → test j ≡ false) → some_below k test ≡ some_below m test
some_beyond k m test l off =
    same_test (some_below k test) (some_below m test)
    (λ h. let w = some_which k test h in some_by m test w.0 (omega (arith, w.1, l)) w.2)
    (λ h. let w = some_which m test h in go w.0 w.1 w.2 (lt_or_ge w.0 k))
  where
    go : (i : ℕ) → i < m → test i ≡ true → (i < k) ⊎ (k ≤ i) → some_below k test ≡ true
    go i h e (inl low) = some_by k test i low e
    go i h e (inr high) = absurd (contrary e (off i high h))
