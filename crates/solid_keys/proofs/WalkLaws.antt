-- The walk along a slot's chain passes over no item that is looked for, where all that are looked for have the slot.
use mathlib.Core.Path.{◌≡◌, sym, ap, ◌∙◌}
use mathlib.Core.Bool.{Bool, true, false}
use Prim.Native.Nat.{ℕ, suc, ◌<◌, ◌≤◌}
use native.Mathlib.Omega.{arith}
use lib.Dec.{eqb}
use borrow.Author.Tests.{eq-eqb, eqb-true}
use Rattle.solid_keys.specs.Pair.{above}
use Rattle.solid_keys.specs.Work.{Next}
use Rattle.solid_keys.proofs.CountLaws.{above_le, above_passes, above_skip}

-- what is known at the link t on the way down from n in the chain of the slot h, where `same` tells what is looked for
pub record Walk (slots : ℕ → ℕ) (same : ℕ → Bool) (h n t : ℕ) : Type 0 where
  pub low : t ≤ n
  pub rest : above same t ≡ above same n
  pub in_slot : (x : ℕ) → t ≡ suc x → slots x ≡ h

module _ {slots : ℕ → ℕ} {same : ℕ → Bool} {h n : ℕ} where
  pub walk_start : (from : ℕ) → ((u : ℕ) → same u ≡ true → slots u ≡ h) → from ≡ above (λ u. eqb (slots u) h) n → Walk slots same h n from
  walk_start from agree e =
      record {
        low = omega (arith, above_le (λ u. eqb (slots u) h) n);
        rest = rw e (above_skip (λ u. eqb (slots u) h) same (λ u g. eq-eqb _ _ (agree u g)) n);
        in_slot = λ x g. eqb-true _ _ (above_passes (λ u. eqb (slots u) h) n x (sym e ∙ g));
      }

  module _ (t x : ℕ) (w : Walk slots same h n t) (at : t ≡ suc x) where
    pub walk_found : same x ≡ true → t ≡ above same n
    unfolding above
    walk_found g =
        let e : above same (suc x) ≡ suc x = rw g in
        at ∙ sym e ∙ ap (above same) (sym at) ∙ w.rest

    passed : same x ≡ false → above same x ≡ above same n
    unfolding above
    passed g =
        let e : above same (suc x) ≡ above same x = rw g in
        sym e ∙ ap (above same) (sym at) ∙ w.rest

    pub walk_on : (next : ℕ → ℕ) → ((u : ℕ) → same u ≡ true → slots u ≡ h) → Next slots next n → same x ≡ false → Walk slots same h n (next x)
    unfolding Next
    walk_on next agree f g =
        let e = f x (omega (arith, w.low)) in
        let i = w.in_slot x at in
        record {
          low = omega (arith, e, w.low, above_le (λ u. eqb (slots u) (slots x)) x);
          rest = rw e (above_skip (λ u. eqb (slots u) (slots x)) same (λ u k. eq-eqb _ _ (agree u k ∙ sym i)) x ∙ passed g);
          in_slot = λ y k. eqb-true _ _ (above_passes (λ u. eqb (slots u) (slots x)) x y (sym e ∙ k)) ∙ i;
        }

    -- the link falls
    pub walk_falls : (next : ℕ → ℕ) → Next slots next n → next x < t
    unfolding Next
    walk_falls next f = omega (arith, f x (omega (arith, w.low)), above_le (λ u. eqb (slots u) (slots x)) x)

  pub walk_end : (t : ℕ) → Walk slots same h n t → t ≤ 0 → 0 ≡ above same n
  unfolding above
  walk_end t w g =
      let e : t ≡ 0 = omega arith in
      sym (ap (above same) e) ∙ w.rest
