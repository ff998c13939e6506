-- The numbers below n: put into a slice one by one, and read from it again.
use mathlib.Core.Path.{◌≡◌, refl, sym, ap, ◌∙◌, subst}
use mathlib.Core.List.{List, [], ◌∷◌, ◌++◌}
use mathlib.Core.Logic.{◌⊎◌, inl, inr}
use Prim.Native.Nat.{ℕ, zero, suc, ◌+◌, ◌≤◌, ◌<◌}
use native.Mathlib.Omega.{arith}
use native.Mathlib.Numerals.{add-one}
use native.Mathlib.Nat.{le_antisymm}
use lib.ListN.{length, get_or, set, take, length-append, get_or-append}
use lib.Seq.{ext_get_or, get_or-set_same, get_or-set_other, get_or-take, get_or_at, length-take-le}
use Rattle.num_float.proofs.Tests.{lt_or_ge}
use Rattle.list_laws.specs.Region.{part}
use Rattle.list_laws.proofs.Regions.{part_length, part_place}
use Rattle.list_laws.proofs.Outside.{outside_none, outside_then, outside_wide, outside_set}
use Rattle.wall_median.specs.Rough.{numbers_to}
use Rattle.wall_median.specs.Work.{NumbersPut}

-- ---- one by one
pub numbers_none : (at : ℕ) (l : List ℕ) → NumbersPut 0 at l l
numbers_none at l = record { each = λ i h. absurd (omega (arith, h)); kept = outside_none 0 at (at + 0) l }

pub numbers_more : (n at k : ℕ) (old new : List ℕ) → at + n ≤ length old → k < n → NumbersPut k at old new → NumbersPut (k + 1) at old (set new (at + k) k)
numbers_more n at k old new room low h =
    record {
      each = λ i l. go i l (lt_or_ge i k);
      kept = outside_then 0 _ _ old new (set new (at + k) k) (outside_wide 0 at (at + k) at (at + (k + 1)) old new (omega arith) (omega arith) h.kept)
          (outside_set 0 at (at + (k + 1)) new (at + k) k (omega arith) (omega arith));
    }
  where
    go : (i : ℕ) → i < k + 1 → (i < k) ⊎ (k ≤ i) → get_or (set new (at + k) k) (at + i) 0 ≡ i
    go i l (inl before) = get_or-set_other new (at + k) (at + i) k 0 (λ e. omega (arith, e, before)) ∙ h.each i before
    go i l (inr after) =
        let here : k ≡ i = omega (arith, l, after) in
        subst (λ (j : ℕ). get_or (set new (at + k) k) (at + j) 0 ≡ j) here (get_or-set_same new (at + k) k 0 (omega (arith, room, low, h.kept.long)))

pub numbers_all : (n at k : ℕ) (old new : List ℕ) → k ≤ n → n ≤ k → NumbersPut k at old new → NumbersPut n at old new
numbers_all n at k old new a b h = subst (λ (j : ℕ). NumbersPut j at old new) (le_antisymm a b) h

-- ---- what they are
pub numbers_length : (n : ℕ) → length (numbers_to n) ≡ n
unfolding numbers_to
numbers_length zero = refl
numbers_length (suc n) = length-append (numbers_to n) (n ∷ []) ∙ ap (λ (k : ℕ). k + 1) (numbers_length n) ∙ add-one n

pub numbers_at : (n i : ℕ) → i < n → get_or (numbers_to n) i 0 ≡ i
unfolding numbers_to
numbers_at zero i l = absurd (omega (arith, l))
numbers_at (suc n) i l = go (λ before. numbers_at n i before) (lt_or_ge i n)
  where
    go : (i < n → get_or (numbers_to n) i 0 ≡ i) → (i < n) ⊎ (n ≤ i) → get_or (numbers_to n ++ (n ∷ [])) i 0 ≡ i
    go earlier (inl before) = get_or-append (numbers_to n) (n ∷ []) 0 i (omega (arith, before, numbers_length n)) ∙ earlier before
    go earlier (inr after) =
        let here : n ≡ i = omega (arith, l, after) in
        get_or_at (numbers_to n) n [] 0 i (numbers_length n ∙ here) ∙ here

-- ---- in the part from `at` to e
module _ (n at e : ℕ) (old new : List ℕ) (room : at + n ≤ e) (inside : e ≤ length new) (h : NumbersPut n at old new) where
  pub numbers_place : (i : ℕ) → i < n → get_or (part at e new) i 0 ≡ i
  numbers_place i l = part_place at e new 0 i (omega (arith, l, room)) ∙ h.each i l

  pub numbers_taken : take n (part at e new) ≡ numbers_to n
  numbers_taken =
      let long : length (take n (part at e new)) ≡ n = length-take-le n (part at e new) (omega (arith, part_length at e new inside, room)) in
      ext_get_or 0 (take n (part at e new)) (numbers_to n) (long ∙ sym (numbers_length n))
      (λ i g.
      let l : i < n = omega (arith, g, long) in
      get_or-take n (part at e new) i 0 l ∙ numbers_place i l ∙ sym (numbers_at n i l))
