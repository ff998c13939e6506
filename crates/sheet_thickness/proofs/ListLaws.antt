-- The numbers that pass a test, put one by one; and their weights, added one by one.
use mathlib.Core.Path.{◌≡◌, refl, sym, ap, ◌∙◌, subst}
use mathlib.Core.Bool.{Bool, true, false, cond}
use mathlib.Core.List.{List, [], ◌∷◌, ◌++◌}
use mathlib.Core.Logic.{◌⊎◌, inl, inr}
use Prim.Native.Nat.{ℕ, zero, suc, ◌+◌, ◌≤◌, ◌<◌}
use native.Mathlib.Omega.{arith}
use native.Mathlib.Numerals.{add-one}
use native.Mathlib.Nat.{le_antisymm}
use lib.ListN.{length, get_or, set, length-append, get_or-append}
use lib.Seq.{get_or-set_same, get_or-set_other, get_or_at}
use lib.Ieee.{Float, binary64, add}
use Rattle.num_float.proofs.Tests.{lt_or_ge}
use Rattle.math.specs.Vector as vector
use Rattle.list_laws.proofs.Outside.{outside_none, outside_then, outside_wide, outside_set}
use Rattle.list_groups.specs.Groups.{passing}
use Rattle.list_groups.proofs.Strict.{place_mem}
use Rattle.solid_tours.proofs.Passing.{passing_more, passing_past, passing_zero, mem_passing}
use Rattle.sheet_thickness.specs.Thickness.{added_to}
use Rattle.sheet_thickness.specs.Work.{PassingPut}

-- ---- the numbers that pass
pub passing_below : (test : ℕ → Bool) (m i : ℕ) → i < length (passing test m) → get_or (passing test m) i 0 < m
passing_below test m i l = (mem_passing test m (place_mem (passing test m) i l)).0

module _ (test : ℕ → Bool) (from : ℕ) (old : List ℕ) where
  pub put_none : PassingPut test 0 from old old 0
  put_none = record { count = sym (ap length (passing_zero test)); each = λ i l. absurd (omega (arith, l)); kept = outside_none 0 from (from + 0) old }

  pub put_past : (k n : ℕ) (new : List ℕ) → test k ≡ false → PassingPut test k from old new n → PassingPut test (k + 1) from old new n
  put_past k n new fails h =
      let same : passing test k ≡ passing test (k + 1) = sym (passing_past test k fails) in
      record {
        count = h.count ∙ ap length same;
        each = λ i l. h.each i l ∙ ap (λ (xs : List ℕ). get_or xs i 0) same;
        kept = outside_wide 0 from (from + k) from (from + (k + 1)) old new (omega arith) (omega arith) h.kept;
      }

  pub put_more : (m k n : ℕ) (new : List ℕ) → from + m ≤ length old → k < m → n ≤ k → test k ≡ true → PassingPut test k from old new n →
      PassingPut test (k + 1) from old (set new (from + n) k) (n + 1)
  put_more m k n new room low few passes h =
      let next : passing test k ++ (k ∷ []) ≡ passing test (k + 1) = sym (passing_more test k passes) in
      record {
        count = omega (arith, h.count, length-append (passing test k) (k ∷ []), ap length next);
        each = λ i l. go i l (lt_or_ge i n) ∙ ap (λ (xs : List ℕ). get_or xs i 0) next;
        kept = outside_then 0 _ _ old new (set new (from + n) k) (outside_wide 0 from (from + k) from (from + (k + 1)) old new (omega arith) (omega arith) h.kept)
            (outside_set 0 from (from + (k + 1)) new (from + n) k (omega arith) (omega (arith, few)));
      }
    where
      go : (i : ℕ) → i < n + 1 → (i < n) ⊎ (n ≤ i) → get_or (set new (from + n) k) (from + i) 0 ≡ get_or (passing test k ++ (k ∷ [])) i 0
      go i l (inl before) =
          get_or-set_other new (from + n) (from + i) k 0 (λ e. omega (arith, e, before)) ∙ h.each i before
          ∙ sym (get_or-append (passing test k) (k ∷ []) 0 i (omega (arith, before, h.count)))
      go i l (inr after) =
          let here : n ≡ i = omega (arith, l, after) in
          ap (λ (j : ℕ). get_or (set new (from + n) k) (from + j) 0) (sym here)
          ∙ get_or-set_same new (from + n) k 0 (omega (arith, room, low, few, h.kept.long))
          ∙ sym (get_or_at (passing test k) k [] 0 i (sym h.count ∙ here))

  pub put_all : (m k n : ℕ) (new : List ℕ) → k ≤ m → m ≤ k → PassingPut test k from old new n → PassingPut test m from old new n
  put_all m k n new a b h = subst (λ (j : ℕ). PassingPut test j from old new n) (le_antisymm a b) h

-- ---- the weights of those that pass, added
module _ (test : ℕ → Bool) (weight : ℕ → Float) where
  pub added_none : vector.zero ≡ added_to test weight 0
  unfolding added_to
  added_none = refl

  added_suc : (k : ℕ) → added_to test weight (suc k) ≡ cond (test k) (add binary64 (added_to test weight k) (weight k)) (added_to test weight k)
  unfolding added_to
  added_suc k = refl

  pub added_more : (k : ℕ) (x : Float) → test k ≡ true → x ≡ added_to test weight k → add binary64 x (weight k) ≡ added_to test weight (k + 1)
  added_more k x passes e = rw (add-one, added_suc k, passes, e)

  pub added_past : (k : ℕ) (x : Float) → test k ≡ false → x ≡ added_to test weight k → x ≡ added_to test weight (k + 1)
  added_past k x fails e = rw (add-one, added_suc k, fails, e)

pub added_same : (test test' : ℕ → Bool) (weight weight' : ℕ → Float) (m : ℕ) → ((k : ℕ) → k < m → test k ≡ test' k) → ((k : ℕ) → k < m → weight k ≡ weight' k) →
    added_to test weight m ≡ added_to test' weight' m
unfolding added_to
added_same test test' weight weight' zero t w = refl
added_same test test' weight weight' (suc k) t w =
    let before : added_to test weight k ≡ added_to test' weight' k = added_same test test' weight weight' k (λ i l. t i (omega (arith, l))) (λ i l. w i (omega (arith, l))) in
    rw (before, t k (omega arith), w k (omega arith))
