-- What the first byte of a line tells of its form.
use mathlib.Core.Path.{◌≡◌, refl, sym, subst}
use mathlib.Core.Bool.{Bool, true, false, ◌&&◌, cond}
use mathlib.Core.List.{List, [], ◌∷◌, map}
use Prim.Native.Nat.{ℕ, ◌<◌, ◌^◌}
use native.Mathlib.Omega.{arith}
use lib.Dec.{eqb, leb, ltb}
use lib.ListN.{length, drop, get_or}
use borrow.Author.Tests.{eqb-true}
use Rattle.obj_number.specs.Cut.{before}
use Rattle.obj_number.specs.Whole.{is_whole, value_of}
use Rattle.obj_number.specs.Decimal.{is_decimal, decimal_of}
use Rattle.obj_line.specs.Split.{fields_of}
use Rattle.obj_line.specs.Form.{Form, vertex, face, group, skipped, other, all_positive, vertex_form, face_form, group_form, fields_form, form_of}
use Rattle.obj_line.specs.Work.{fields_after}
use Rattle.obj_line.proofs.SplitLaws.{fields_are}

-- ---- the first byte: 118, 102 and 103 are the bytes of v, f and g
unfoldable pub Kind : ℕ → Form → Type 0
Kind b (vertex v) = b ≡ 118
Kind b (face ns) = b ≡ 102
Kind b (group i) = b ≡ 103
Kind b skipped = b < 102
Kind b other = Unit {0}

kind_if : (b : ℕ) (t : Bool) (f : Form) → Kind b f → Kind b (cond t f other)
unfolding Kind
kind_if b true f h = h
kind_if b false f h = tt

vertex_kind : (b : ℕ) (fs : List (List ℕ)) → b ≡ 118 → Kind b (vertex_form fs)
unfolding vertex_form Kind
vertex_kind b [] h = tt
vertex_kind b (x ∷ []) h = tt
vertex_kind b (x ∷ y ∷ []) h = tt
vertex_kind b (x ∷ y ∷ z ∷ []) h =
    kind_if b (is_decimal x && is_decimal y && is_decimal z) (vertex record { x = decimal_of x; y = decimal_of y; z = decimal_of z }) h
vertex_kind b (x ∷ y ∷ z ∷ w ∷ fs) h = tt

face_kind : (b : ℕ) (fs : List (List ℕ)) → b ≡ 102 → Kind b (face_form fs)
unfolding face_form Kind
face_kind b fs h = kind_if b (all_positive fs && leb 3 (length fs) && leb (length fs) 64) (face (map value_of fs)) h

group_kind : (b : ℕ) (fs : List (List ℕ)) → b ≡ 103 → Kind b (group_form fs)
unfolding group_form Kind
group_kind b [] h = tt
group_kind b (n ∷ []) h = kind_if b (is_whole n && ltb (value_of n) (2 ^ 32)) (group (value_of n)) h
group_kind b (n ∷ m ∷ fs) h = tt

byte_kind : (b : ℕ) (w : List ℕ) (fs : List (List ℕ)) → Kind b (fields_form ((b ∷ w) ∷ fs))
unfolding fields_form Kind
byte_kind b [] fs = go (eqb b 118) (eqb b 102) (eqb b 103) refl refl refl
  where
    go : (v f g : Bool) → eqb b 118 ≡ v → eqb b 102 ≡ f → eqb b 103 ≡ g → Kind b (cond v (vertex_form fs) (cond f (face_form fs) (cond g (group_form fs) other)))
    go true f g p q r = vertex_kind b fs (eqb-true b 118 p)
    go false true g p q r = face_kind b fs (eqb-true b 102 q)
    go false false true p q r = group_kind b fs (eqb-true b 103 r)
    go false false false p q r = tt
byte_kind b (c ∷ w) fs = tt

field_kind : (b : ℕ) (t : Bool) (w : List ℕ) (fs : List (List ℕ)) → Kind b (fields_form (cond t [] (b ∷ w) ∷ fs))
unfolding fields_form Kind
field_kind b true w fs = tt
field_kind b false w fs = byte_kind b w fs

pub form_kind : (l : List ℕ) → Kind (get_or l 0 0) (form_of l)
unfolding form_of before Kind
form_kind [] = omega arith
form_kind (b ∷ l) = go (eqb b 35) refl
  where
    go : (t : Bool) → eqb b 35 ≡ t → Kind b (cond t skipped (fields_form (fields_of (b ∷ l))))
    go true e = let k : b ≡ 35 = eqb-true b 35 e in omega (arith, k)
    go false e =
        subst (λ (fs : List (List ℕ)). Kind b (fields_form fs)) (sym (fields_are (b ∷ l)))
        (field_kind b (eqb b 32) (before 32 l) (fields_after (drop (length (before 32 (b ∷ l))) (b ∷ l))))
