-- Where a list is cut at a byte.
use mathlib.Core.Path.{◌≡◌, refl, sym, ap, ◌∙◌}
use mathlib.Core.Bool.{Bool, true, false, cond}
use mathlib.Core.List.{List, [], ◌∷◌}
use Prim.Native.Nat.{ℕ, suc, zero-le, ◌+◌, ◌-◌, ◌≤◌, ◌<◌, min}
use native.Mathlib.Nat.{zero-add, le_of_eq}
use native.Mathlib.Numerals.{add-one}
use native.Mathlib.Omega.{arith}
use lib.Dec.{eqb}
use lib.ListN.{length, get_or, take, drop, length-drop, drop_of_length-le}
use lib.Seq.{drop-cons, drop-nil, take_all}
use borrow.Author.Tests.{eq-eqb, ne_eqb}
use Rattle.obj_number.specs.Cut.{before, after}
use Rattle.obj_number.specs.Work.{NoneTo}

-- ---- one byte more
before_here : (b c : ℕ) (l : List ℕ) → c ≡ b → before b (c ∷ l) ≡ []
unfolding before
before_here b c l e = rw (eq-eqb c b e)

before_more : (b c : ℕ) (l : List ℕ) → (c ≡ b → ⊥) → before b (c ∷ l) ≡ c ∷ before b l
unfolding before
before_more b c l n = rw (ne_eqb c b n)

pub at_here : (b : ℕ) (s : List ℕ) (i : ℕ) → i < length s → get_or s i 0 ≡ b → length (before b (drop i s)) ≡ 0
at_here b s i h e = ap (λ (l : List ℕ). length (before b l)) (drop-cons s i 0 h) ∙ ap length (before_here b (get_or s i 0) (drop (suc i) s) e)

pub at_more : (b : ℕ) (s : List ℕ) (i : ℕ) → i < length s → (get_or s i 0 ≡ b → ⊥) → length (before b (drop i s)) ≡ suc (length (before b (drop (i + 1) s)))
at_more b s i h n =
    ap (λ (l : List ℕ). length (before b l)) (drop-cons s i 0 h)
    ∙ ap length (before_more b (get_or s i 0) (drop (suc i) s) n)
    ∙ ap (λ (k : ℕ). suc (length (before b (drop k s)))) (sym (add-one i))

pub none_start : (b : ℕ) (s : List ℕ) → NoneTo b s 0
none_start b s = record { inside = zero-le; rest = zero-add _ }

pub none_more : (b : ℕ) (s : List ℕ) (i : ℕ) → NoneTo b s i → i < length s → (get_or s i 0 ≡ b → ⊥) → NoneTo b s (i + 1)
none_more b s i k h n =
    let e = k.rest in
    let m = at_more b s i h n in
    record { inside = omega (arith, h); rest = omega (arith, e, m) }

pub none_here : (b : ℕ) (s : List ℕ) (i : ℕ) → NoneTo b s i → i < length s → get_or s i 0 ≡ b → i ≡ length (before b s)
none_here b s i k h e =
    let r = k.rest in
    let z = at_here b s i h e in
    omega (arith, r, z)

pub none_end : (b : ℕ) (s : List ℕ) (i : ℕ) → NoneTo b s i → length s ≤ i → i ≡ length (before b s)
unfolding before
none_end b s i k h =
    let r = k.rest in
    let none : length (before b (drop i s)) ≡ 0 = ap (λ (l : List ℕ). length (before b l)) (drop_of_length-le s h) in
    omega (arith, r, none)

-- ---- the two parts
pub before_length : (b : ℕ) (l : List ℕ) → length (before b l) ≤ length l
unfolding before
before_length b [] = zero-le
before_length b (c ∷ l) = go (eqb c b) (before_length b l)
  where
    go : (t : Bool) → length (before b l) ≤ length l → length (cond t [] (c ∷ before b l)) ≤ suc (length l)
    go true h = zero-le
    go false h = omega arith

pub take_before : (b : ℕ) (l : List ℕ) → take (length (before b l)) l ≡ before b l
unfolding before
take_before b [] = refl
take_before b (c ∷ l) = go (eqb c b) (take_before b l)
  where
    go : (t : Bool) → take (length (before b l)) l ≡ before b l → take (length (cond t [] (c ∷ before b l))) (c ∷ l) ≡ cond t [] (c ∷ before b l)
    go true h = refl
    go false h = ap (λ (k : List ℕ). c ∷ k) h

-- from the byte after b on, or from the end
pub drop_after : (b : ℕ) (l : List ℕ) → drop (min (length (before b l) + 1) (length l)) l ≡ after b l
unfolding before after
drop_after b [] = drop-nil (min 1 0)
drop_after b (c ∷ l) = go (eqb c b) (drop_after b l)
  where
    go : (t : Bool) → drop (min (length (before b l) + 1) (length l)) l ≡ after b l
        → drop (min (length (cond t [] (c ∷ before b l)) + 1) (suc (length l))) (c ∷ l) ≡ cond t l (after b l)
    go true h =
        let one : min (0 + 1) (suc (length l)) ≡ suc 0 = omega arith in
        ap (λ (k : ℕ). drop k (c ∷ l)) one
    go false h =
        let more : min (suc (length (before b l)) + 1) (suc (length l)) ≡ suc (min (length (before b l) + 1) (length l)) = omega arith in
        ap (λ (k : ℕ). drop k (c ∷ l)) more ∙ h

-- ---- a part that is lent from k to the end
pub part_all : (k : ℕ) (l : List ℕ) → take (length l - k) (drop k l) ≡ drop k l
part_all k l = take_all (length l - k) (drop k l) (le_of_eq (length-drop k l))
