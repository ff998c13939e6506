-- A line as it is read, with the numbers of a face in a table.
use Rattle.std.proofs.Common.{Option, Some, None, MatchOption}
use mathlib.Core.Path.{◌≡◌, refl, sym, ap, ◌∙◌, subst}
use mathlib.Core.Bool.{Bool, true, false, ◌&&◌, cond}
use mathlib.Core.List.{List, [], ◌∷◌, map}
use Prim.Native.Nat.{ℕ, suc, ◌+◌}
use native.Mathlib.Omega.{arith}
use lib.Dec.{leb}
use lib.ListN.{length, set, get_or}
use lib.Seq.{sets}
use borrow.Author.Tests.{eq-eqb, ne_eqb}
use Rattle.obj_number.specs.Whole.{value_of, capped}
use Rattle.obj_line.specs.declared.line.Line.{Line}
use Rattle.obj_line.specs.Form.{Form, vertex, face, group, skipped, other, all_positive, face_form, form_of, line_of, numbers_of, Read}
use Rattle.obj_line.specs.Work.{cell_of, or_other, vertex_line}
use Rattle.obj_line.proofs.FieldLaws.{WholeTold}
use Rattle.obj_line.proofs.KindLaws.{Kind, form_kind}

clash : {A : Type 0} → ◌≡◌ {A = ℕ} 0 1 → A
clash z = absurd (omega arith)

-- ---- a line from what was read of it
pub line_from : {A : Type 0} (line : A → Line) (o : Option A) (r : Line) → MatchOption o (r ≡ Line.Other) (λ x. r ≡ line x) → r ≡ or_other line o
line_from line (Some x) r h = h
line_from line None r h = h

pub read_from : {A : Type 0} (line : A → Line) (o : Option A) (r : Line) (f : Form) (ns ns' : List ℕ) (used : ℕ) → MatchOption o (r ≡ Line.Other) (λ x. r ≡ line x)
    → Read f ns used ns' (or_other line o) → Read f ns used ns' r
read_from line o r f ns ns' used h k = subst (λ (x : Line). Read f ns used ns' x) (sym (line_from line o r h)) k

-- ---- a line of another form: nothing is told of the table
is_other : (f : Form) → Line.Other ≡ line_of f → f ≡ other
unfolding line_of
is_other (vertex v) e = clash cc
is_other (face ns) e = clash cc
is_other (group i) e = clash cc
is_other skipped e = clash cc
is_other other e = refl

pub read_other : (f : Form) (ns ns' : List ℕ) (used : ℕ) → length ns' ≡ length ns → Line.Other ≡ line_of f → Read f ns used ns' Line.Other
read_other f ns ns' used l e = record { line = e; same_length = l; stored = λ h. absurd (h (is_other f e)) }

-- ---- a line that does not begin with an f has no numbers
no_numbers : (b : ℕ) (f : Form) → Kind b f → (b ≡ 102 → ⊥) → numbers_of f ≡ []
unfolding Kind numbers_of
no_numbers b (vertex v) k h = refl
no_numbers b (face ns) k h = absurd (h k)
no_numbers b (group i) k h = refl
no_numbers b skipped k h = refl
no_numbers b other k h = refl

pub read_plain : (l ns : List ℕ) (used : ℕ) (r : Line) → (get_or l 0 0 ≡ 102 → ⊥) → r ≡ line_of (form_of l) → Read (form_of l) ns used ns r
read_plain l ns used r h e = record {
  line = e;
  same_length = refl;
  stored = λ g. sym (ap (λ (m : List ℕ). sets ns used (map capped m)) (no_numbers (get_or l 0 0) (form_of l) (form_kind l) h));
}

first_none : (l : List ℕ) → length l ≡ 0 → get_or l 0 0 ≡ 0
first_none [] h = refl
first_none (b ∷ l) h = absurd (omega arith)

pub read_empty : (l ns : List ℕ) (used : ℕ) (r : Line) → length l ≡ 0 → r ≡ line_of (form_of l) → Read (form_of l) ns used ns r
read_empty l ns used r h e = read_plain l ns used r (λ (q : get_or l 0 0 ≡ 102). apart (get_or l 0 0) (first_none l h) q) e
  where
    apart : (b : ℕ) → b ≡ 0 → b ≡ 102 → ⊥
    apart b p q = omega (arith, p, q)

pub read_byte : (l ns : List ℕ) (used b : ℕ) (r : Line) → get_or l 0 0 ≡ b → (b ≡ 102 → ⊥) → r ≡ line_of (form_of l) → Read (form_of l) ns used ns r
read_byte l ns used b r h n e = read_plain l ns used r (λ (q : get_or l 0 0 ≡ 102). n (sym h ∙ q)) e

-- ---- a face: its fields, one by one
map_cells : (fs : List (List ℕ)) → map cell_of fs ≡ map capped (map value_of fs)
unfolding cell_of
map_cells [] = refl
map_cells (f ∷ fs) = ap (λ (l : List ℕ). capped (value_of f) ∷ l) (map_cells fs)

pub read_face : (fs : List (List ℕ)) (ns ns' : List ℕ) (used : ℕ) (r : Line) → length ns' ≡ length ns → r ≡ line_of (face_form fs) → ns' ≡ sets ns used (map cell_of fs) → Read (face_form fs) ns used ns' r
unfolding face_form numbers_of
read_face fs ns ns' used r l e s = record { line = e; same_length = l; stored = go (all_positive fs && leb 3 (length fs) && leb (length fs) 64) }
  where
    go : (b : Bool) → (cond b (face (map value_of fs)) other ≡ other → ⊥) → ns' ≡ sets ns used (map capped (numbers_of (cond b (face (map value_of fs)) other)))
    go true h = s ∙ ap (sets ns used) (map_cells fs)
    go false h = absurd (h refl)

pub cells_more : (fs gs : List (List ℕ)) (f : List ℕ) (ns : List ℕ) (used i n : ℕ) → fs ≡ f ∷ gs → WholeTold f n
    → sets (set ns (used + i) n) (used + (i + 1)) (map cell_of gs) ≡ sets ns (used + i) (map cell_of fs)
unfolding cell_of
cells_more fs gs f ns used i n e t =
    ap (λ (k : ℕ). sets (set ns (used + i) n) k (map cell_of gs)) (next used i)
    ∙ ap (λ (v : ℕ). sets (set ns (used + i) v) (suc (used + i)) (map cell_of gs)) t.value
    ∙ ap (λ (l : List (List ℕ)). sets ns (used + i) (map cell_of l)) (sym e)
  where
    next : (a b : ℕ) → a + (b + 1) ≡ suc (a + b)
    next a b = omega arith

pub read_same : (f g : Form) (ns ns' : List ℕ) (used : ℕ) (r : Line) → f ≡ g → Read f ns used ns' r → Read g ns used ns' r
read_same f g ns ns' used r e k = subst (λ (x : Form). Read x ns used ns' r) e k

-- ---- a line if it begins with a v
pub vertex_none : (l : List ℕ) → length l ≡ 0 → Line.Skipped ≡ vertex_line l
unfolding vertex_line
vertex_none [] h = refl
vertex_none (b ∷ l) h = absurd (omega arith)

pub vertex_not : (l : List ℕ) → (get_or l 0 0 ≡ 118 → ⊥) → Line.Skipped ≡ vertex_line l
unfolding vertex_line
vertex_not l h = rw (ne_eqb (get_or l 0 0) 118 h)

pub vertex_read : (l : List ℕ) (line : Line) → get_or l 0 0 ≡ 118 → line ≡ line_of (form_of l) → line ≡ vertex_line l
unfolding vertex_line
vertex_read l line h e = rw (eq-eqb (get_or l 0 0) 118 h) e

pub vertex_no_comment : (l : List ℕ) → get_or l 0 0 ≡ 118 → get_or l 0 0 ≡ 35 → ⊥
vertex_no_comment l h e = omega (arith, h, e)
