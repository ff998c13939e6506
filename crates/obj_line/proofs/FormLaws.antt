-- The form of a line, from what is known of its fields.
use Rattle.std.proofs.Common.{Option, Result, Ok, Err}
use Rattle.std.specs.Result.{OkIff, result_ok}
use mathlib.Core.Path.{◌≡◌, refl, sym, ap, ◌∙◌}
use mathlib.Core.Bool.{Bool, true, false, ◌&&◌, cond}
use mathlib.Core.List.{List, [], ◌∷◌, map}
use Prim.Native.Nat.{ℕ, suc, ◌+◌, ◌≤◌, ◌<◌, ◌^◌, min, max}
use native.Mathlib.Nat.{add-zero, zero-add}
use native.Mathlib.Omega.{arith}
use lib.Dec.{eqb, leb, ltb}
use lib.ListN.{length, drop, get_or, length-map}
use lib.Ieee.{Float}
use borrow.Author.Tests.{eq-eqb, ne_eqb, le-leb, lt-leb, lt-ltb, le-ltb}
use Rattle.math.specs.declared.Vec3.{Vec3}
use Rattle.obj_number.specs.Cut.{before, after}
use Rattle.obj_number.specs.Whole.{is_whole, value_of, capped}
use Rattle.obj_number.specs.Decimal.{is_sign, unsigned, digits_of, is_unsigned, is_decimal, decimal_of}
use Rattle.obj_line.specs.declared.line.Line.{Line}
use Rattle.obj_line.specs.Form.{face, other, vertex_form, is_positive, all_positive, face_form, group_form, fields_form, form_of, largest, line_of}
use Rattle.obj_line.specs.Work.{fields_after, first, others, face_line, or_other}
use Rattle.obj_line.proofs.SplitLaws.{fields_are}
use Rattle.obj_line.proofs.FieldLaws.{RealTold, WholeTold}

and_second : (a b c : Bool) → b ≡ false → (a && b && c) ≡ false
and_second true b c h = rw h
and_second false b c h = refl

and_last : (a b : Bool) → b ≡ false → (a && b) ≡ false
and_last true b h = h
and_last false b h = refl

contrary : (b : Bool) → b ≡ true → b ≡ false → ⊥
contrary true h k = let z : ◌≡◌ {A = ℕ} 0 1 = cc in omega arith
contrary false h k = let z : ◌≡◌ {A = ℕ} 0 1 = cc in omega arith

cons_not : (f : List ℕ) (fs : List (List ℕ)) → f ∷ fs ≡ [] → ⊥
cons_not f fs e = let z : ◌≡◌ {A = ℕ} 0 1 = cc in omega arith

-- ---- no field is a number
pub empty_decimal : is_decimal [] ≡ false
unfolding is_decimal is_unsigned unsigned is_sign digits_of before after
empty_decimal = refl

pub empty_whole : is_whole [] ≡ false
unfolding is_whole
empty_whole = refl

-- ---- a vertex
pub vertex_first : (fs : List (List ℕ)) → is_decimal (first fs) ≡ false → Line.Other ≡ line_of (vertex_form fs)
unfolding first vertex_form line_of
vertex_first [] h = refl
vertex_first (x ∷ []) h = refl
vertex_first (x ∷ y ∷ []) h = refl
vertex_first (x ∷ y ∷ z ∷ []) h = rw h
vertex_first (x ∷ y ∷ z ∷ w ∷ fs) h = refl

pub vertex_second : (fs : List (List ℕ)) → is_decimal (first (others fs)) ≡ false → Line.Other ≡ line_of (vertex_form fs)
unfolding first others vertex_form line_of
vertex_second [] h = refl
vertex_second (x ∷ []) h = refl
vertex_second (x ∷ y ∷ []) h = refl
vertex_second (x ∷ y ∷ z ∷ []) h = rw (and_second (is_decimal x) (is_decimal y) (is_decimal z) h)
vertex_second (x ∷ y ∷ z ∷ w ∷ fs) h = refl

pub vertex_third : (fs : List (List ℕ)) → is_decimal (first (others (others fs))) ≡ false → Line.Other ≡ line_of (vertex_form fs)
unfolding first others vertex_form line_of
vertex_third [] h = refl
vertex_third (x ∷ []) h = refl
vertex_third (x ∷ y ∷ []) h = refl
vertex_third (x ∷ y ∷ z ∷ []) h = rw (and_last (is_decimal x && is_decimal y) (is_decimal z) h)
vertex_third (x ∷ y ∷ z ∷ w ∷ fs) h = refl

pub vertex_more : (fs : List (List ℕ)) (f : List ℕ) (gs : List (List ℕ)) → others (others (others fs)) ≡ f ∷ gs → Line.Other ≡ line_of (vertex_form fs)
unfolding others vertex_form line_of
vertex_more [] f gs h = refl
vertex_more (x ∷ []) f gs h = refl
vertex_more (x ∷ y ∷ []) f gs h = refl
vertex_more (x ∷ y ∷ z ∷ []) f gs h = absurd (cons_not f gs (sym h))
vertex_more (x ∷ y ∷ z ∷ w ∷ fs) f gs h = refl

pub vertex_is : (fs : List (List ℕ)) (a b c : Float) → RealTold (first fs) a → RealTold (first (others fs)) b → RealTold (first (others (others fs))) c → others (others (others fs)) ≡ []
    → Line.Vertex record { x = a; y = b; z = c } ≡ line_of (vertex_form fs)
unfolding first others vertex_form line_of
vertex_is [] a b c A B C h = absurd (contrary (is_decimal []) A.good empty_decimal)
vertex_is (x ∷ []) a b c A B C h = absurd (contrary (is_decimal []) B.good empty_decimal)
vertex_is (x ∷ y ∷ []) a b c A B C h = absurd (contrary (is_decimal []) C.good empty_decimal)
vertex_is (x ∷ y ∷ z ∷ []) a b c A B C h =
    let same : ◌≡◌ {A = Vec3} (record { x = a; y = b; z = c }) (record { x = decimal_of x; y = decimal_of y; z = decimal_of z }) = alike a b c (decimal_of x) (decimal_of y) (decimal_of z) A.value B.value C.value in
    rw (A.good, B.good, C.good) (ap Line.Vertex same)
  where
    alike : (a b c d e f : Float) → a ≡ d → b ≡ e → c ≡ f → ◌≡◌ {A = Vec3} (record { x = a; y = b; z = c }) (record { x = d; y = e; z = f })
    alike a b c d e f p q r = rw (p, q, r)
vertex_is (x ∷ y ∷ z ∷ w ∷ fs) a b c A B C h = absurd (cons_not w fs h)

-- ---- a face
positive_not : (f : List ℕ) → is_whole f ≡ false → is_positive f ≡ false
unfolding is_positive
positive_not f h = rw h

positive_zero : (f : List ℕ) (n : ℕ) → WholeTold f n → n ≡ 0 → is_positive f ≡ false
unfolding is_positive capped
positive_zero f n t h =
    let z : value_of f < 1 = omega (arith, t.value) in
    and_last (is_whole f) (leb 1 (value_of f)) (lt-leb 1 (value_of f) z)

positive_is : (f : List ℕ) (n : ℕ) → WholeTold f n → (n ≡ 0 → ⊥) → is_positive f ≡ true
unfolding is_positive capped
positive_is f n t h =
    let z : 1 ≤ value_of f = omega (arith, t.value, h) in
    rw (t.good, le-leb 1 (value_of f) z)

pub face_not : (fs gs : List (List ℕ)) (f : List ℕ) (count most : ℕ) → fs ≡ f ∷ gs → is_whole f ≡ false → face_line count most fs ≡ Line.Other
unfolding face_line
face_not fs gs f count most e h = rw (e, positive_not f h)

pub face_zero : (fs gs : List (List ℕ)) (f : List ℕ) (count most n : ℕ) → fs ≡ f ∷ gs → WholeTold f n → n ≡ 0 → face_line count most fs ≡ Line.Other
unfolding face_line
face_zero fs gs f count most n e t h = rw (e, positive_zero f n t h)

pub face_more : (fs gs : List (List ℕ)) (f : List ℕ) (count most n m : ℕ) → fs ≡ f ∷ gs → WholeTold f n → (n ≡ 0 → ⊥) → m ≡ max most n
    → face_line (count + 1) m gs ≡ face_line count most fs
unfolding face_line
face_more fs gs f count most n m e t h k =
    let same : m ≡ max most (capped (value_of f)) = k ∙ ap (max most) t.value in
    rw (e, positive_is f n t h, same)

pub face_few : (count most : ℕ) → count < 3 → face_line count most [] ≡ Line.Other
unfolding face_line
face_few count most h = rw (lt-leb 3 count h)

pub face_done : (count most : ℕ) → 3 ≤ count → count ≤ 64 → face_line count most [] ≡ Line.Face record { count = count; largest = most }
unfolding face_line
face_done count most h k = rw (le-leb 3 count h, le-leb count 64 k)

-- the loop's line is the form's
abbrev corners : Bool → ℕ → ℕ → Line
corners b count most = cond b (Line.Face record { count = count; largest = most }) Line.Other

capped_max : (v l : ℕ) → min (max v l) (2 ^ 63) ≡ max (min v (2 ^ 63)) (min l (2 ^ 63))
capped_max v l = omega arith

max_twice : (m a b : ℕ) → max (max m a) b ≡ max m (max a b)
max_twice m a b = omega arith

face_run : (fs : List (List ℕ)) (c m : ℕ)
    → face_line c m fs ≡ corners (all_positive fs && leb 3 (c + length fs) && leb (c + length fs) 64) (c + length fs) (max m (capped (largest (map value_of fs))))
unfolding face_line all_positive largest capped
face_run [] c m =
    let none : max m (min 0 (2 ^ 63)) ≡ m = omega arith in
    rw (add-zero c, none)
face_run (f ∷ fs) c m =
    let l = largest (map value_of fs) in
    let v = value_of f in
    let len : c + 1 + length fs ≡ c + suc (length fs) = omega arith in
    let most : max (max m (min v (2 ^ 63))) (min l (2 ^ 63)) ≡ max m (min (max v l) (2 ^ 63)) = max_twice m (min v (2 ^ 63)) (min l (2 ^ 63)) ∙ ap (max m) (sym (capped_max v l)) in
    step (is_positive f) (all_positive fs) (c + 1 + length fs) (c + suc (length fs)) _ _ _ len most (face_run fs (c + 1) (max m (min v (2 ^ 63))))
  where
    step : (p a : Bool) (n n' k k' : ℕ) (r : Line) → n ≡ n' → k ≡ k' → r ≡ corners (a && leb 3 n && leb n 64) n k
        → cond p r Line.Other ≡ corners ((p && a) && leb 3 n' && leb n' 64) n' k'
    step true a n n' k k' r e f h = h ∙ ap (λ (i : ℕ). corners (a && leb 3 i && leb i 64) i k) e ∙ ap (corners (a && leb 3 n' && leb n' 64) n') f
    step false a n n' k k' r e f h = refl

-- a field after 64 numbers
pub face_full : (fs gs : List (List ℕ)) (f : List ℕ) (count most : ℕ) → count ≡ 64 → fs ≡ f ∷ gs → face_line count most fs ≡ Line.Other
face_full fs gs f count most h e =
    let more : 64 < count + length fs = some count (length fs) h (ap length e) in
    face_run fs count most
    ∙ ap (λ (b : Bool). corners b (count + length fs) (max most (capped (largest (map value_of fs))))) (and_last (all_positive fs && leb 3 (count + length fs)) (leb (count + length fs) 64) (lt-leb (count + length fs) 64 more))
  where
    some : (a b : ℕ) → a ≡ 64 → b ≡ suc (length gs) → 64 < a + b
    some a b p q = omega arith

pub face_form_lem : (fs : List (List ℕ)) → face_line 0 0 fs ≡ line_of (face_form fs)
unfolding face_form line_of
face_form_lem fs =
    let most : max 0 (capped (largest (map value_of fs))) ≡ capped (largest (map value_of fs)) = omega arith in
    face_run fs 0 0
    ∙ ap (λ (n : ℕ). corners (all_positive fs && leb 3 n && leb n 64) n (max 0 (capped (largest (map value_of fs))))) (zero-add (length fs))
    ∙ ap (corners (all_positive fs && leb 3 (length fs) && leb (length fs) 64) (length fs)) most
    ∙ through (all_positive fs && leb 3 (length fs) && leb (length fs) 64)
  where
    through : (b : Bool) → corners b (length fs) (capped (largest (map value_of fs))) ≡ line_of (cond b (face (map value_of fs)) other)
    through true = ap (λ (n : ℕ). Line.Face record { count = n; largest = capped (largest (map value_of fs)) }) (sym (length-map fs value_of))
    through false = refl

-- ---- a face index
pub group_more : (fs : List (List ℕ)) (f : List ℕ) (gs : List (List ℕ)) → others fs ≡ f ∷ gs → Line.Other ≡ line_of (group_form fs)
unfolding others group_form line_of
group_more [] f gs h = refl
group_more (n ∷ []) f gs h = absurd (cons_not f gs (sym h))
group_more (n ∷ m ∷ fs) f gs h = refl

pub group_not : (fs : List (List ℕ)) → is_whole (first fs) ≡ false → Line.Other ≡ line_of (group_form fs)
unfolding first group_form line_of
group_not [] h = refl
group_not (n ∷ []) h = rw h
group_not (n ∷ m ∷ fs) h = refl

pub group_large : (fs : List (List ℕ)) (n : ℕ) → WholeTold (first fs) n → 2 ^ 32 ≤ n → Line.Other ≡ line_of (group_form fs)
unfolding first group_form line_of capped
group_large [] n t h = refl
group_large (f ∷ []) n t h =
    let z : 2 ^ 32 ≤ value_of f = omega (arith, t.value) in
    rw (and_last (is_whole f) (ltb (value_of f) (2 ^ 32)) (le-ltb (value_of f) (2 ^ 32) z))
group_large (f ∷ m ∷ fs) n t h = refl

pub group_is : (fs : List (List ℕ)) (n : ℕ) → WholeTold (first fs) n → others fs ≡ [] → n < 2 ^ 32 → Line.Group n ≡ line_of (group_form fs)
unfolding first others group_form line_of capped
group_is [] n t e h = absurd (contrary (is_whole []) t.good empty_whole)
group_is (f ∷ []) n t e h =
    let same : n ≡ value_of f = omega (arith, t.value) in
    let z : value_of f < 2 ^ 32 = omega arith in
    rw (t.good, lt-ltb (value_of f) (2 ^ 32) z) (ap Line.Group same)
group_is (f ∷ m ∷ fs) n t e h = absurd (cons_not m fs e)

-- a number as a u32, if it is one
pub group_fits : {E : Type 0} (fs : List (List ℕ)) (n : ℕ) (r : Result ℕ E) (o : Option ℕ) → WholeTold (first fs) n → others fs ≡ [] → OkIff r (n < 2 ^ 32) n → o ≡ result_ok r → or_other Line.Group o ≡ line_of (group_form fs)
group_fits fs n (Ok i) o t e h k = ap (or_other Line.Group) k ∙ ap Line.Group h.1 ∙ group_is fs n t e h.0
group_fits fs n (Err d) o t e h k = ap (or_other Line.Group) k ∙ group_large fs n t (omega (arith, h))

-- ---- a line, by its first field
pub line_empty : (l : List ℕ) → length l ≡ 0 → Line.Skipped ≡ line_of (form_of l)
unfolding form_of line_of
line_empty [] h = refl
line_empty (b ∷ l) h = absurd (omega arith)

pub line_comment : (l : List ℕ) → (length l ≡ 0 → ⊥) → get_or l 0 0 ≡ 35 → Line.Skipped ≡ line_of (form_of l)
unfolding form_of line_of
line_comment [] n h = refl
line_comment (b ∷ l) n h = rw (eq-eqb b 35 h)

form_fields : (l : List ℕ) → (length l ≡ 0 → ⊥) → (get_or l 0 0 ≡ 35 → ⊥) → form_of l ≡ fields_form (before 32 l ∷ fields_after (drop (length (before 32 l)) l))
unfolding form_of
form_fields [] n h = absurd (n refl)
form_fields (b ∷ l) n h = rw (ne_eqb b 35 h) (ap fields_form (fields_are (b ∷ l)))

long_field : (w : List ℕ) (fs : List (List ℕ)) → (length w ≡ 1 → ⊥) → fields_form (w ∷ fs) ≡ other
unfolding fields_form
long_field [] fs h = refl
long_field (b ∷ []) fs h = absurd (h refl)
long_field (b ∷ c ∷ w) fs h = refl

length_none : (l : List ℕ) → length l ≡ 0 → l ≡ []
length_none [] h = refl
length_none (b ∷ l) h = absurd (omega arith)

one_byte : (l : List ℕ) → length (before 32 l) ≡ 1 → before 32 l ≡ get_or l 0 0 ∷ []
unfolding before
one_byte [] h = absurd (omega arith)
one_byte (c ∷ l) h = go (eqb c 32) h
  where
    go : (t : Bool) → length (cond t [] (c ∷ before 32 l)) ≡ 1 → cond t [] (c ∷ before 32 l) ≡ c ∷ []
    go true k = absurd (omega arith)
    go false k = ap (λ (w : List ℕ). c ∷ w) (length_none (before 32 l) (omega arith))

pub line_long : (l : List ℕ) → (length l ≡ 0 → ⊥) → (get_or l 0 0 ≡ 35 → ⊥) → (length (before 32 l) ≡ 1 → ⊥) → Line.Other ≡ line_of (form_of l)
unfolding line_of
line_long l n h k = sym (ap line_of (form_fields l n h ∙ long_field (before 32 l) (fields_after (drop (length (before 32 l)) l)) k))

-- the first field is one byte
module _ (l : List ℕ) (n : length l ≡ 0 → ⊥) (h : get_or l 0 0 ≡ 35 → ⊥) (one : length (before 32 l) ≡ 1) where
  byte_form : form_of l ≡ fields_form ((get_or l 0 0 ∷ []) ∷ fields_after (drop 1 l))
  byte_form =
      form_fields l n h
      ∙ ap (λ (i : ℕ). fields_form (before 32 l ∷ fields_after (drop i l))) one
      ∙ ap (λ (w : List ℕ). fields_form (w ∷ fields_after (drop 1 l))) (one_byte l one)

  pub line_vertex : get_or l 0 0 ≡ 118 → line_of (vertex_form (fields_after (drop 1 l))) ≡ line_of (form_of l)
  unfolding fields_form
  line_vertex e =
      let is : form_of l ≡ vertex_form (fields_after (drop 1 l)) = byte_form ∙ rw (eq-eqb (get_or l 0 0) 118 e) in
      sym (ap line_of is)

  pub line_face : (get_or l 0 0 ≡ 118 → ⊥) → get_or l 0 0 ≡ 102 → face_form (fields_after (drop 1 l)) ≡ form_of l
  unfolding fields_form
  line_face a e =
      let is : form_of l ≡ face_form (fields_after (drop 1 l)) = byte_form ∙ rw (ne_eqb (get_or l 0 0) 118 a, eq-eqb (get_or l 0 0) 102 e) in
      sym is

  pub line_group : (get_or l 0 0 ≡ 118 → ⊥) → (get_or l 0 0 ≡ 102 → ⊥) → get_or l 0 0 ≡ 103 → line_of (group_form (fields_after (drop 1 l))) ≡ line_of (form_of l)
  unfolding fields_form
  line_group a b e =
      let is : form_of l ≡ group_form (fields_after (drop 1 l)) = byte_form ∙ rw (ne_eqb (get_or l 0 0) 118 a, ne_eqb (get_or l 0 0) 102 b, eq-eqb (get_or l 0 0) 103 e) in
      sym (ap line_of is)

  pub line_other : (get_or l 0 0 ≡ 118 → ⊥) → (get_or l 0 0 ≡ 102 → ⊥) → (get_or l 0 0 ≡ 103 → ⊥) → Line.Other ≡ line_of (form_of l)
  unfolding fields_form line_of
  line_other a b c =
      let is : form_of l ≡ other = byte_form ∙ rw (ne_eqb (get_or l 0 0) 118 a, ne_eqb (get_or l 0 0) 102 b, ne_eqb (get_or l 0 0) 103 c) in
      sym (ap line_of is)
