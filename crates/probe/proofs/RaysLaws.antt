-- The cells of the answers: none yet, one more, all.
use mathlib.Core.Path.{◌≡◌, ◌∙◌, subst}
use mathlib.Core.List.{List}
use mathlib.Core.Logic.{◌⊎◌, inl, inr}
use Prim.Native.Nat.{ℕ, ◌+◌, ◌≤◌, ◌<◌}
use native.Mathlib.Omega.{arith}
use native.Mathlib.Nat.{le_antisymm}
use lib.ListN.{length, get_or, set}
use lib.Seq.{get_or-set_same, get_or-set_other}
use Rattle.num_float.proofs.Tests.{lt_or_ge}
use Rattle.list_laws.proofs.Outside.{outside_none, outside_then, outside_wide, outside_set}
use Rattle.probe.specs.Rays.{Answered}

module _ {X : Type 0} (d : X) (answer : ℕ → X) where
  pub answered_none : (l : List X) → Answered d answer 0 l l
  answered_none l = record { each = λ k low. absurd (omega (arith, low)); rest = outside_none d 0 0 l }

  pub answered_more : (k : ℕ) (l m : List X) (x : X) → k < length l → x ≡ answer k → Answered d answer k l m → Answered d answer (k + 1) l (set m k x)
  answered_more k l m x room e h =
      record {
        each = λ q low. go q low (lt_or_ge q k);
        rest = outside_then d 0 (k + 1) l m (set m k x) (outside_wide d 0 k 0 (k + 1) l m (omega arith) (omega arith) h.rest)
            (outside_set d 0 (k + 1) m k x (omega arith) (omega arith));
      }
    where
      go : (q : ℕ) → q < k + 1 → (q < k) ⊎ (k ≤ q) → get_or (set m k x) q d ≡ answer q
      go q low (inl below) = get_or-set_other m k q x d (λ at. omega (arith, at, below)) ∙ h.each q below
      go q low (inr above) =
          let here : k ≡ q = omega (arith, low, above) in
          subst (λ (j : ℕ). get_or (set m k x) j d ≡ answer j) here (get_or-set_same m k x d (omega (arith, room, h.rest.long)) ∙ e)

  pub answered_all : (k n : ℕ) (l m : List X) → k ≤ n → n ≤ k → Answered d answer k l m → Answered d answer n l m
  answered_all k n l m a b h = subst (λ (j : ℕ). Answered d answer j l m) (le_antisymm a b) h
