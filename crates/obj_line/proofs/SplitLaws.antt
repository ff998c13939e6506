-- A list cut at each of some byte, piece by piece from its front.
use mathlib.Core.Path.{◌≡◌, refl, sym, ap, ◌∙◌}
use mathlib.Core.Bool.{Bool, true, false, cond}
use mathlib.Core.List.{List, [], ◌∷◌}
use Prim.Native.Nat.{ℕ, suc, zero-le, ◌+◌, ◌≤◌, ◌<◌}
use native.Mathlib.Numerals.{add-one}
use native.Mathlib.Omega.{arith}
use lib.Dec.{eqb}
use lib.ListN.{length, drop, get_or, drop_of_length-le}
use lib.Seq.{drop-cons}
use borrow.Author.Tests.{eq-eqb, ne_eqb}
use Rattle.obj_number.specs.Cut.{before}
use Rattle.obj_line.specs.Split.{piece, split, squeeze, separate, fields_of}
use Rattle.obj_line.specs.Work.{spaces_of, fields_after}

-- the pieces of what is left where a piece has ended
unfoldable pub pieces_after : ℕ → List ℕ → List (List ℕ)
pieces_after b [] = []
pieces_after b (c ∷ l) = split b l

-- ---- the first piece, and the others
cut_step : (t : Bool) (b c : ℕ) (l : List ℕ) → split b l ≡ before b l ∷ pieces_after b (drop (length (before b l)) l)
    → piece t c (split b l) ≡ cond t [] (c ∷ before b l) ∷ pieces_after b (drop (length (cond t [] (c ∷ before b l))) (c ∷ l))
unfolding piece pieces_after
cut_step true b c l h = refl
cut_step false b c l h = ap (piece false c) h

pub split_cut : (b : ℕ) (l : List ℕ) → split b l ≡ before b l ∷ pieces_after b (drop (length (before b l)) l)
unfolding split before pieces_after
split_cut b [] = refl
split_cut b (c ∷ l) = cut_step (eqb c b) b c l (split_cut b l)

-- ---- fields
after_are : (l : List ℕ) → squeeze (pieces_after 32 l) ≡ fields_after l
unfolding pieces_after fields_after squeeze
after_are [] = refl
after_are (c ∷ l) = refl

pub fields_are : (l : List ℕ) → fields_of l ≡ before 32 l ∷ fields_after (drop (length (before 32 l)) l)
unfolding fields_of separate
fields_are l = ap separate (split_cut 32 l) ∙ ap (λ (fs : List (List ℕ)). before 32 l ∷ fs) (after_are (drop (length (before 32 l)) l))

-- an empty piece in front of others is dropped
squeeze_empty : (ps : List (List ℕ)) (q : List ℕ) (qs : List (List ℕ)) → ps ≡ q ∷ qs → squeeze ([] ∷ ps) ≡ squeeze ps
unfolding squeeze
squeeze_empty ps q qs e = ap (λ (k : List (List ℕ)). squeeze ([] ∷ k)) e ∙ sym (ap squeeze e)

-- a piece that is not empty, and the last one, is a field
squeeze_field : (c : ℕ) (w : List ℕ) (ps : List (List ℕ)) (q : List ℕ) (qs : List (List ℕ)) → ps ≡ q ∷ qs → squeeze ((c ∷ w) ∷ ps) ≡ (c ∷ w) ∷ squeeze ps
unfolding squeeze
squeeze_field c w ps q qs e = ap (λ (k : List (List ℕ)). squeeze ((c ∷ w) ∷ k)) e ∙ sym (ap (λ (k : List (List ℕ)). (c ∷ w) ∷ squeeze k) e)

squeeze_first : (w l : List ℕ) → (w ≡ [] → l ≡ []) → squeeze (w ∷ pieces_after 32 l) ≡ w ∷ fields_after l
unfolding pieces_after fields_after squeeze
squeeze_first [] [] h = refl
squeeze_first (a ∷ w) [] h = refl
squeeze_first [] (c ∷ l) h = absurd (some c l (h refl))
  where
    some : (c : ℕ) (l : List ℕ) → c ∷ l ≡ [] → ⊥
    some c l e = let z : ◌≡◌ {A = ℕ} 0 1 = cc in omega arith
squeeze_first (a ∷ w) (c ∷ l) h = squeeze_field a w (split 32 l) (before 32 l) (pieces_after 32 (drop (length (before 32 l)) l)) (split_cut 32 l)

-- ---- the spaces in front of a field
skip_one : (c : ℕ) (l : List ℕ) → squeeze (split 32 l) ≡ squeeze (split 32 (drop (spaces_of l) l)) → squeeze (piece true c (split 32 l)) ≡ squeeze (split 32 (drop (spaces_of l) l))
unfolding piece
skip_one c l h = squeeze_empty (split 32 l) (before 32 l) (pieces_after 32 (drop (length (before 32 l)) l)) (split_cut 32 l) ∙ h

skip_step : (t : Bool) (c : ℕ) (l : List ℕ) → eqb c 32 ≡ t → squeeze (split 32 l) ≡ squeeze (split 32 (drop (spaces_of l) l))
    → squeeze (piece t c (split 32 l)) ≡ squeeze (split 32 (drop (cond t (suc (spaces_of l)) 0) (c ∷ l)))
unfolding split
skip_step true c l e h = skip_one c l h
skip_step false c l e h = ap (λ (t : Bool). squeeze (piece t c (split 32 l))) (sym e)

pub skip_spaces : (l : List ℕ) → squeeze (split 32 l) ≡ squeeze (split 32 (drop (spaces_of l) l))
unfolding split spaces_of
skip_spaces [] = refl
skip_spaces (c ∷ l) = skip_step (eqb c 32) c l refl (skip_spaces l)

spaces_step : (t : Bool) (c : ℕ) (l : List ℕ) → eqb c 32 ≡ t → spaces_of (drop (spaces_of l) l) ≡ 0 → spaces_of (drop (cond t (suc (spaces_of l)) 0) (c ∷ l)) ≡ 0
unfolding spaces_of
spaces_step true c l e h = h
spaces_step false c l e h = ap (λ (t : Bool). cond t (suc (spaces_of l)) 0) e

-- after them stands no space
pub spaces_end : (l : List ℕ) → spaces_of (drop (spaces_of l) l) ≡ 0
unfolding spaces_of
spaces_end [] = refl
spaces_end (c ∷ l) = spaces_step (eqb c 32) c l refl (spaces_end l)

pub spaces_length : (l : List ℕ) → spaces_of l ≤ length l
unfolding spaces_of
spaces_length [] = zero-le
spaces_length (c ∷ l) = go (eqb c 32) (spaces_length l)
  where
    go : (t : Bool) → spaces_of l ≤ length l → cond t (suc (spaces_of l)) 0 ≤ suc (length l)
    go true h = omega arith
    go false h = zero-le

-- so a field begins there, which is empty only at the end
not_empty : (l : List ℕ) → spaces_of l ≡ 0 → before 32 l ≡ [] → drop (length (before 32 l)) l ≡ []
unfolding spaces_of before
not_empty [] h e = refl
not_empty (c ∷ l) h e = go (eqb c 32) h e
  where
    go : (t : Bool) → cond t (suc (spaces_of l)) 0 ≡ 0 → cond t [] (c ∷ before 32 l) ≡ [] → drop (length (cond t [] (c ∷ before 32 l))) (c ∷ l) ≡ []
    go true h e = absurd (omega arith)
    go false h e = let z : ◌≡◌ {A = ℕ} 0 1 = cc in absurd (omega arith)

pub field_first : (l : List ℕ) → spaces_of l ≡ 0 → squeeze (split 32 l) ≡ before 32 l ∷ fields_after (drop (length (before 32 l)) l)
field_first l h = ap squeeze (split_cut 32 l) ∙ squeeze_first (before 32 l) (drop (length (before 32 l)) l) (not_empty l h)

-- ---- the spaces, one by one
pub spaces_here : (s : List ℕ) (i : ℕ) → i < length s → (get_or s i 0 ≡ 32 → ⊥) → spaces_of (drop i s) ≡ 0
unfolding spaces_of
spaces_here s i h n = ap spaces_of (drop-cons s i 0 h) ∙ rw (ne_eqb (get_or s i 0) 32 n)

pub spaces_more : (s : List ℕ) (i : ℕ) → i < length s → get_or s i 0 ≡ 32 → spaces_of (drop i s) ≡ suc (spaces_of (drop (i + 1) s))
unfolding spaces_of
spaces_more s i h e = ap spaces_of (drop-cons s i 0 h ∙ ap (λ (k : ℕ). get_or s i 0 ∷ drop k s) (sym (add-one i))) ∙ rw (eq-eqb (get_or s i 0) 32 e)

pub spaces_none : (s : List ℕ) (i : ℕ) → length s ≤ i → spaces_of (drop i s) ≡ 0
unfolding spaces_of
spaces_none s i h = ap spaces_of (drop_of_length-le s h)
