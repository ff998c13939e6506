-- The lines of a text from a place on, one after the other.
use mathlib.Core.Path.{◌≡◌, refl, sym, ap, ◌∙◌}
use mathlib.Core.Bool.{Bool, true, false}
use mathlib.Core.List.{List, [], ◌∷◌, map}
use Prim.Native.Nat.{ℕ, suc, zero-le, ◌+◌, ◌-◌, ◌≤◌, ◌<◌}
use native.Mathlib.Nat.{le_trans, le_of_eq}
use native.Mathlib.Numerals.{add-one}
use native.Mathlib.Decide.{dec_lt}
use native.Mathlib.Omega.{arith}
use lib.Dec.{eqb}
use lib.ListN.{length, take, drop, get_or, length-drop, length-map, drop_of_length-le}
use lib.Seq.{drop-cons, drop-drop}
use borrow.Author.Tests.{le-leb, lt-leb}
use Rattle.obj_number.specs.Cut.{before}
use Rattle.obj_number.proofs.CutLaws.{take_before, before_length}
use Rattle.obj_line.specs.Split.{piece, split, lines_of}
use Rattle.obj_line.specs.Form.{form_of}
use Rattle.obj_line.proofs.SplitLaws.{pieces_after, split_cut}
use Rattle.obj_text.specs.Text.{forms_of}
use Rattle.obj_text.specs.Work.{lines_from, forms_from}

-- ---- all lines, and none
pub forms_start : (text : List ℕ) → forms_from text 0 ≡ forms_of text
unfolding forms_from lines_from forms_of lines_of
forms_start text = rw (le-leb 0 (length text) zero-le)

pub forms_end : (text : List ℕ) (at : ℕ) → length text < at → forms_from text at ≡ []
unfolding forms_from lines_from
forms_end text at h = rw (lt-leb at (length text) h)

-- ---- a line, and those after it
pieces_of : (c : ℕ) (l : List ℕ) → pieces_after 10 (c ∷ l) ≡ split 10 l
unfolding pieces_after
pieces_of c l = refl

pieces_none : pieces_after 10 [] ≡ []
unfolding pieces_after
pieces_none = refl

lines_there : (text : List ℕ) (at : ℕ) → at ≤ length text → lines_from text at ≡ split 10 (drop at text)
unfolding lines_from
lines_there text at h = rw (le-leb at (length text) h)

lines_past : (text : List ℕ) (at : ℕ) → length text < at → lines_from text at ≡ []
unfolding lines_from
lines_past text at h = rw (lt-leb at (length text) h)

lines_after : (text : List ℕ) (end : ℕ) → end ≤ length text → pieces_after 10 (drop end text) ≡ lines_from text (end + 1)
lines_after text end h = go (dec_lt end (length text))
  where
    go : Dec (end < length text) → pieces_after 10 (drop end text) ≡ lines_from text (end + 1)
    go (yes k) =
        ap (pieces_after 10) (drop-cons text end 0 k ∙ ap (λ (i : ℕ). get_or text end 0 ∷ drop i text) (sym (add-one end)))
        ∙ pieces_of (get_or text end 0) (drop (end + 1) text)
        ∙ sym (lines_there text (end + 1) (omega arith))
    go (no k) =
        let over : length text ≤ end = omega (arith, k) in
        ap (pieces_after 10) (drop_of_length-le text over) ∙ pieces_none ∙ sym (lines_past text (end + 1) (omega arith))

pub end_inside : (text : List ℕ) (at e : ℕ) → at ≤ length text → e ≡ length (before 10 (drop at text)) → at + e ≤ length text
end_inside text at e h f =
    let b : e ≤ length text - at = le_trans (le_of_eq f) (le_trans (before_length 10 (drop at text)) (le_of_eq (length-drop at text))) in
    omega arith

lines_step : (text : List ℕ) (at e : ℕ) → at ≤ length text → e ≡ length (before 10 (drop at text))
    → lines_from text at ≡ take (at + e - at) (drop at text) ∷ lines_from text (at + e + 1)
lines_step text at e h f =
    let l = drop at text in
    let width : length (before 10 l) ≡ at + e - at = omega arith in
    let first : before 10 l ≡ take (at + e - at) l = sym (take_before 10 l) ∙ ap (λ (i : ℕ). take i l) width in
    let rest : drop (length (before 10 l)) l ≡ drop (at + e) text = ap (λ (i : ℕ). drop i l) (sym f) ∙ drop-drop e at text in
    lines_there text at h
    ∙ split_cut 10 l
    ∙ ap (λ (w : List ℕ). w ∷ pieces_after 10 (drop (length (before 10 l)) l)) first
    ∙ ap (λ (k : List (List ℕ)). take (at + e - at) l ∷ k) (ap (pieces_after 10) rest ∙ lines_after text (at + e) (end_inside text at e h f))

pub forms_step : (text : List ℕ) (at e : ℕ) → at ≤ length text → e ≡ length (before 10 (drop at text))
    → forms_from text at ≡ form_of (take (at + e - at) (drop at text)) ∷ forms_from text (at + e + 1)
unfolding forms_from
forms_step text at e h f = ap (map form_of) (lines_step text at e h f)

-- ---- how many lines there are
piece_length : (t : Bool) (c : ℕ) (ps : List (List ℕ)) (n : ℕ) → length ps ≤ n + 1 → length (piece t c ps) ≤ suc n + 1
unfolding piece
piece_length true c ps n h = omega arith
piece_length false c [] n h = omega arith
piece_length false c (p ∷ ps) n h = omega arith

split_length : (b : ℕ) (l : List ℕ) → length (split b l) ≤ length l + 1
unfolding split
split_length b [] = le_of_eq refl
split_length b (c ∷ l) = piece_length (eqb c b) c (split b l) (length l) (split_length b l)

pub forms_length : (text : List ℕ) → length (forms_of text) ≤ length text + 1
unfolding forms_of lines_of
forms_length text = le_trans (le_of_eq (length-map (split 10 text) form_of)) (split_length 10 text)
