-- Laws of `above`, and of counts by it.
use mathlib.Core.Path.{◌≡◌, refl, sym, ap, ◌∙◌}
use mathlib.Core.Logic.{◌⊎◌, ⊎_elim, inl, inr}
use mathlib.Core.Bool.{Bool, true, false, cond}
use Prim.Native.Nat.{ℕ, zero, suc, ◌<◌, ◌≤◌}
use native.Mathlib.Nat.{eq-or-lt_of_le}
use native.Mathlib.Omega.{arith}
use lib.Dec.{eqb}
use borrow.Author.Tests.{eqb-true, eqb-false}
use Rattle.num_float.proofs.Tests.{refuted, contrary, lt_or_ge}
use Rattle.list_laws.specs.Below.{count_below}
use Rattle.list_laws.proofs.Count.{count_less}
use Rattle.solid_keys.specs.Pair.{above}

-- ---- two numbers
pub equal_or_not : (a b : ℕ) → (a ≡ b) ⊎ (a ≡ b → ⊥)
equal_or_not a b = go (eqb a b) refl
  where
    go : (t : Bool) → eqb a b ≡ t → (a ≡ b) ⊎ (a ≡ b → ⊥)
    go true h = inl (eqb-true a b h)
    go false h = inr (eqb-false a b h)

pub newest : (q n : ℕ) → q < suc n → (q ≡ n) ⊎ (q < n)
newest q n h = eq-or-lt_of_le (omega arith)

-- ---- one test
module _ (test : ℕ → Bool) where
  pub above_le : (n : ℕ) → above test n ≤ n
  unfolding above
  above_le zero = omega arith
  above_le (suc n) = go (test n) (above_le n)
    where
      go : (b : Bool) → above test n ≤ n → cond b (suc n) (above test n) ≤ suc n
      go true h = omega arith
      go false h = omega arith

  -- what `above` finds passes
  pub above_passes : (n x : ℕ) → above test n ≡ suc x → test x ≡ true
  unfolding above
  above_passes zero x h = absurd (omega arith)
  above_passes (suc n) x h = go (test n) refl (above_passes n x) h
    where
      go : (b : Bool) → test n ≡ b → (above test n ≡ suc x → test x ≡ true) → cond b (suc n) (above test n) ≡ suc x → test x ≡ true
      go true e f h = let same : n ≡ x = omega arith in rw (← same) e
      go false e f h = f h

  -- between what `above` finds and n nothing passes
  pub above_fails : (n u : ℕ) → u < n → above test n ≤ u → test u ≡ false
  unfolding above
  above_fails zero u l h = absurd (omega arith)
  above_fails (suc n) u l h = go (test n) refl (above_fails n u) h
    where
      go : (b : Bool) → test n ≡ b → (u < n → above test n ≤ u → test u ≡ false) → cond b (suc n) (above test n) ≤ u → test u ≡ false
      go true e f h = absurd (omega arith)
      go false e f h = ⊎_elim (λ same. rw same e) (λ below. f below h) (newest u n l)

  -- nothing passes from what `above` finds on, so nothing is counted there
  count_to_above : (n : ℕ) → count_below (above test n) test ≡ count_below n test
  unfolding above count_below
  count_to_above zero = refl
  count_to_above (suc n) = go (test n) refl (count_to_above n)
    where
      go : (b : Bool) → test n ≡ b → count_below (above test n) test ≡ count_below n test
          → count_below (cond b (suc n) (above test n)) test ≡ cond b (suc (count_below n test)) (count_below n test)
      go true e h = rw e
      go false e h = h

  pub none_counted : (n : ℕ) → above test n ≡ 0 → count_below n test ≡ 0
  unfolding count_below
  none_counted n h = sym (count_to_above n) ∙ ap (λ (k : ℕ). count_below k test) h

  pub count_found : (n x : ℕ) → above test n ≡ suc x → count_below n test ≡ suc (count_below x test)
  unfolding count_below
  count_found n x h = sym (count_to_above n) ∙ ap (λ (k : ℕ). count_below k test) h ∙ rw (above_passes n x h)

  pub none_passes : (n u : ℕ) → u < n → count_below n test ≡ 0 → test u ≡ false
  none_passes n u l h = refuted (test u) (λ e. omega (arith, count_less u n test l e))

  -- the highest number that passes
  pub above_is : (n t : ℕ) → t < n → test t ≡ true → ((u : ℕ) → u < n → t < u → test u ≡ false) → above test n ≡ suc t
  above_is n t l h f = go (above test n) refl
    where
      go : (x : ℕ) → above test n ≡ x → x ≡ suc t
      go zero e = absurd (contrary h (above_fails n t l (omega arith)))
      go (suc y) e =
          ⊎_elim
          (λ lower. absurd (contrary h (above_fails n t l (omega arith))))
          (λ not_lower.
          ⊎_elim
          (λ higher. absurd (contrary (above_passes n y e) (f y (omega (arith, above_le n)) higher)))
          (λ not-higher. omega arith)
          (lt_or_ge t y))
          (lt_or_ge y t)

  pub above_zero : (n : ℕ) → ((u : ℕ) → u < n → test u ≡ false) → above test n ≡ 0
  above_zero n f = go (above test n) refl
    where
      go : (x : ℕ) → above test n ≡ x → x ≡ 0
      go zero e = refl
      go (suc y) e = absurd (contrary (above_passes n y e) (f y (omega (arith, above_le n))))

-- ---- two tests
module _ (p q : ℕ → Bool) where
  pub counts_agree : (n : ℕ) → ((u : ℕ) → u < n → p u ≡ q u) → count_below n p ≡ count_below n q
  unfolding count_below
  counts_agree zero f = refl
  counts_agree (suc n) f = rw (f n (omega arith), counts_agree n (λ u l. f u (omega arith)))

  pub above_same : (n : ℕ) → ((u : ℕ) → u < n → p u ≡ q u) → above p n ≡ above q n
  unfolding above
  above_same zero f = refl
  above_same (suc n) f = rw (f n (omega arith), above_same n (λ u l. f u (omega arith)))

  module _ (f : (u : ℕ) → q u ≡ true → p u ≡ true) where
    -- where all that pass q pass p, q finds the same below what p finds
    pub above_skip : (n : ℕ) → above q (above p n) ≡ above q n
    unfolding above
    above_skip zero = refl
    above_skip (suc n) = go (p n) (q n) refl refl (above_skip n)
      where
        go : (b c : Bool) → p n ≡ b → q n ≡ c → above q (above p n) ≡ above q n → above q (cond b (suc n) (above p n)) ≡ cond c (suc n) (above q n)
        go true c d e h = rw e
        go false true d e h = absurd (contrary (f n e) d)
        go false false d e h = h
