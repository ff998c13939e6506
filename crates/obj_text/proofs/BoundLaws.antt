-- Bounds on what a text says that neither 14 nor 15 refuses.
use Rattle.std.proofs.Common.{Ok, Err}
use mathlib.Core.Path.{◌≡◌, refl, sym, ap, ◌∙◌}
use mathlib.Core.Bool.{Bool, true, false, ◌&&◌, cond}
use mathlib.Core.List.{List, [], ◌∷◌, ◌++◌, map, append-nil}
use Prim.Native.Nat.{ℕ, zero, suc, ◌+◌, ◌*◌, ◌≤◌, ◌<◌, ◌^◌}
use native.Mathlib.Nat.{le_trans, zero-add}
use native.Mathlib.Numerals.{add-one}
use native.Mathlib.Omega.{arith}
use lib.Dec.{T, eqb, leb, ltb}
use lib.ListN.{length, get_or, take, length-map, length-append, get_or-append}
use lib.Seq.{take-length, get_or-append-add}
use lib.Ieee.{binary64, fits}
use lib.Ieee.Fits.{round-fits}
use lib.Ieee.Bits.{of_bits-fits}
use borrow.Author.Tests.{leb-true, ltb-true}
use Rattle.refusal.specs.declared.Refusal.TheVariants.{UndefinedVertex}
use Rattle.math.specs.declared.Vec3.{Vec3}
use Rattle.obj_number.specs.Whole.{is_whole, value_of}
use Rattle.obj_number.specs.Decimal.{is_decimal, nearest_of, decimal_of}
use Rattle.obj_line.specs.Split.{fields_of, lines_of}
use Rattle.obj_line.specs.Form.{Form, vertex, face, group, skipped, other, vertex_form, is_positive, all_positive, face_form, group_form, fields_form, form_of, largest}
use Rattle.obj_text.specs.Text.{forms_of, refusal_from, line_refusal, vertices_from, vertices_of, Face, faces_from, faces_of, corners_from, corners_of, origin, vertex_of}

and_left : (a b : Bool) → (a && b) ≡ true → a ≡ true
and_left true b h = refl
and_left false b h = h

and_right : (a b : Bool) → (a && b) ≡ true → b ≡ true
and_right true b h = h
and_right false true h = refl
and_right false false h = h

-- ---- one line
-- each coordinate is an f64
pub record Held (v : Vec3) : Type 0 where
  pub x_held : T (fits binary64 v.x)
  pub y_held : T (fits binary64 v.y)
  pub z_held : T (fits binary64 v.z)

-- "3 to 64 positive vertex numbers"
pub record Numbered (ns : List ℕ) : Type 0 where
  pub least : 3 ≤ length ns
  pub most : length ns ≤ 64
  pub positive : (k : ℕ) → k < length ns → 1 ≤ get_or ns k 0

unfoldable Good : Form → Type 0
Good (vertex v) = Held v
Good (face ns) = Numbered ns
Good (group i) = i < 2 ^ 32
Good skipped = Unit {0}
Good other = Unit {0}

good_if : (b : Bool) (f : Form) → (b ≡ true → Good f) → Good (cond b f other)
unfolding Good
good_if true f h = h refl
good_if false f h = tt

decimal_held : (l : List ℕ) → T (fits binary64 (decimal_of l))
unfolding decimal_of nearest_of
decimal_held l = round-fits binary64 _ _ _

vertex_good_lem : (fs : List (List ℕ)) → Good (vertex_form fs)
unfolding vertex_form Good
vertex_good_lem [] = tt
vertex_good_lem (x ∷ []) = tt
vertex_good_lem (x ∷ y ∷ []) = tt
vertex_good_lem (x ∷ y ∷ z ∷ []) =
    good_if (is_decimal x && is_decimal y && is_decimal z) (vertex record { x = decimal_of x; y = decimal_of y; z = decimal_of z })
    (λ h. record { x_held = decimal_held x; y_held = decimal_held y; z_held = decimal_held z })
vertex_good_lem (x ∷ y ∷ z ∷ w ∷ fs) = tt

each_positive : (fs : List (List ℕ)) → all_positive fs ≡ true → (k : ℕ) → k < length (map value_of fs) → 1 ≤ get_or (map value_of fs) k 0
unfolding all_positive is_positive
each_positive [] h k l = absurd (omega (arith, l))
each_positive (f ∷ fs) h zero l = leb-true 1 (value_of f) (and_right (is_whole f) _ (and_left (is_positive f) (all_positive fs) h))
each_positive (f ∷ fs) h (suc k) l = each_positive fs (and_right (is_positive f) (all_positive fs) h) k (omega (arith, l))

face_good : (fs : List (List ℕ)) → Good (face_form fs)
unfolding face_form Good
face_good fs = good_if (all_positive fs && leb 3 (length fs) && leb (length fs) 64) (face (map value_of fs)) given
  where
    given : (all_positive fs && leb 3 (length fs) && leb (length fs) 64) ≡ true → Numbered (map value_of fs)
    given h =
        let both = and_left (all_positive fs && leb 3 (length fs)) (leb (length fs) 64) h in
        let low : 3 ≤ length fs = leb-true 3 (length fs) (and_right (all_positive fs) (leb 3 (length fs)) both) in
        let high : length fs ≤ 64 = leb-true (length fs) 64 (and_right (all_positive fs && leb 3 (length fs)) (leb (length fs) 64) h) in
        let same = length-map fs value_of in
        record { least = omega arith; most = omega arith; positive = each_positive fs (and_left (all_positive fs) (leb 3 (length fs)) both) }

group_good : (fs : List (List ℕ)) → Good (group_form fs)
unfolding group_form Good
group_good [] = tt
group_good (n ∷ []) =
    good_if (is_whole n && ltb (value_of n) (2 ^ 32)) (group (value_of n)) (λ h. ltb-true (value_of n) (2 ^ 32) (and_right (is_whole n) (ltb (value_of n) (2 ^ 32)) h))
group_good (n ∷ m ∷ fs) = tt

fields_good : (fs : List (List ℕ)) → Good (fields_form fs)
unfolding fields_form Good
fields_good [] = tt
fields_good ([] ∷ fs) = tt
fields_good ((b ∷ []) ∷ fs) = go (eqb b 118) (eqb b 102) (eqb b 103)
  where
    go : (v f g : Bool) → Good (cond v (vertex_form fs) (cond f (face_form fs) (cond g (group_form fs) other)))
    go true f g = vertex_good_lem fs
    go false true g = face_good fs
    go false false true = group_good fs
    go false false false = tt
fields_good ((b ∷ c ∷ w) ∷ fs) = tt

form_good : (l : List ℕ) → Good (form_of l)
unfolding form_of Good
form_good [] = tt
form_good (b ∷ l) = go (eqb b 35)
  where
    go : (t : Bool) → Good (cond t skipped (fields_form (fields_of (b ∷ l))))
    go true = tt
    go false = fields_good (fields_of (b ∷ l))

-- ---- all lines
unfoldable AllGood : List Form → Type 0
AllGood [] = Unit {0}
AllGood (f ∷ fs) = Good f × AllGood fs

lines_good : (ls : List (List ℕ)) → AllGood (map form_of ls)
unfolding AllGood
lines_good [] = tt
lines_good (l ∷ ls) = (form_good l, lines_good ls)

text_good : (text : List ℕ) → AllGood (forms_of text)
unfolding forms_of
text_good text = lines_good (lines_of text)

-- ---- the vertices
each_held : (fs : List Form) → AllGood fs → (i : ℕ) → Held (get_or (vertices_from fs) i origin)
unfolding AllGood Good vertices_from origin
each_held [] g i = record { x_held = of_bits-fits binary64 0; y_held = of_bits-fits binary64 0; z_held = of_bits-fits binary64 0 }
each_held (vertex v ∷ fs) g zero = g.0
each_held (vertex v ∷ fs) g (suc i) = each_held fs g.1 i
each_held (face ns ∷ fs) g i = each_held fs g.1 i
each_held (group j ∷ fs) g i = each_held fs g.1 i
each_held (skipped ∷ fs) g i = each_held fs g.1 i
each_held (other ∷ fs) g i = each_held fs g.1 i

-- the vertex of any number has coordinates that are f64
pub vertex_held : (text : List ℕ) (n : ℕ) → Held (vertex_of text n)
unfolding vertex_of vertices_of
vertex_held text n = each_held (forms_of text) (text_good text) _

-- ---- a face of a text of n vertices
pub record Bounded (n : ℕ) (f : Face) : Type 0 where
  pub index_below : f.index < 2 ^ 32
  pub least : 3 ≤ length f.numbers
  pub most : length f.numbers ≤ 64
  pub positive : (k : ℕ) → k < length f.numbers → 1 ≤ get_or f.numbers k 0
  pub defined : (k : ℕ) → k < length f.numbers → get_or f.numbers k 0 ≤ n

unfoldable AllBounded : ℕ → List Face → Type 0
AllBounded n [] = Unit {0}
AllBounded n (f ∷ fs) = Bounded n f × AllBounded n fs

largest_each : (ns : List ℕ) (k : ℕ) → k < length ns → get_or ns k 0 ≤ largest ns
unfolding largest
largest_each [] k l = absurd (omega (arith, l))
largest_each (n ∷ ns) zero l = omega arith
largest_each (n ∷ ns) (suc k) l = omega (arith, largest_each ns k (omega (arith, l)))

face_defined : (n : ℕ) (ns : List ℕ) (fs : List Form) → refusal_from n (face ns ∷ fs) ≡ Ok tt → (largest ns ≤ n) × (refusal_from n fs ≡ Ok tt)
unfolding refusal_from
face_defined n ns fs h = go (leb (largest ns) n) refl h
  where
    go : (b : Bool) → leb (largest ns) n ≡ b → cond b (refusal_from n fs) (Err UndefinedVertex) ≡ Ok tt → (largest ns ≤ n) × (refusal_from n fs ≡ Ok tt)
    go true t e = (leb-true (largest ns) n t, e)
    go false t e = absurd cc

-- with more vertices
wider : (n m : ℕ) (fs : List Face) → n ≤ m → AllBounded n fs → AllBounded m fs
unfolding AllBounded
wider n m [] h b = tt
wider n m (f ∷ fs) h b = (
  record {
    index_below = b.0.index_below;
    least = b.0.least;
    most = b.0.most;
    positive = b.0.positive;
    defined = λ k l. le_trans (b.0.defined k l) h;
  },
  wider n m fs h b.1,
)

faces_bounded : (fs : List Form) (i n : ℕ) → AllGood fs → refusal_from n fs ≡ Ok tt → i < 2 ^ 32 → AllBounded (n + length (vertices_from fs)) (faces_from i fs)
unfolding AllGood Good refusal_from vertices_from faces_from AllBounded
faces_bounded [] i n g h b = tt
faces_bounded (vertex v ∷ fs) i n g h b =
    wider (n + 1 + length (vertices_from fs)) (n + suc (length (vertices_from fs))) (faces_from i fs) (omega arith) (faces_bounded fs i (n + 1) g.1 h b)
faces_bounded (face ns ∷ fs) i n g h b =
    let d = face_defined n ns fs h in
    let top : largest ns ≤ n + length (vertices_from fs) = omega (arith, d.0) in (
      record {
        index_below = b;
        least = g.0.least;
        most = g.0.most;
        positive = g.0.positive;
        defined = λ k l. le_trans (largest_each ns k l) top;
      },
      faces_bounded fs i n g.1 d.1 b,
    )
faces_bounded (group j ∷ fs) i n g h b = faces_bounded fs j n g.1 h g.0
faces_bounded (skipped ∷ fs) i n g h b = faces_bounded fs i n g.1 h b
faces_bounded (other ∷ fs) i n g h b = absurd cc

all_bounded : (text : List ℕ) → line_refusal text ≡ Ok tt → AllBounded (length (vertices_of text)) (faces_of text)
unfolding line_refusal vertices_of faces_of
all_bounded text h =
    wider (0 + length (vertices_from (forms_of text))) (length (vertices_from (forms_of text))) (faces_from 0 (forms_of text)) (omega arith)
    (faces_bounded (forms_of text) 0 0 (text_good text) h (omega arith))

each_bounded : (n : ℕ) (d : Face) (fs : List Face) → AllBounded n fs → (p : ℕ) → p < length fs → Bounded n (get_or fs p d)
unfolding AllBounded
each_bounded n d [] b p l = absurd (omega (arith, l))
each_bounded n d (f ∷ fs) b zero l = b.0
each_bounded n d (f ∷ fs) b (suc p) l = each_bounded n d fs b.1 p (omega (arith, l))

-- each face of a text that neither 14 nor 15 refuses; d is what is read past the last
pub face_bounded : (text : List ℕ) (d : Face) → line_refusal text ≡ Ok tt → (p : ℕ) → p < length (faces_of text) → Bounded (length (vertices_of text)) (get_or (faces_of text) p d)
face_bounded text d h = each_bounded (length (vertices_of text)) d (faces_of text) (all_bounded text h)

-- ---- the corners
-- 1 to n
pub record Inside (n m : ℕ) : Type 0 where
  pub from : 1 ≤ m
  pub to : m ≤ n

append_inside : (n : ℕ) (xs ys : List ℕ) → ((k : ℕ) → k < length xs → Inside n (get_or xs k 0)) → ((k : ℕ) → k < length ys → Inside n (get_or ys k 0)) → (k : ℕ) → k < length (xs ++ ys) → Inside n (get_or (xs ++ ys) k 0)
append_inside n [] ys a b k l = b k l
append_inside n (x ∷ xs) ys a b zero l = a zero (omega arith)
append_inside n (x ∷ xs) ys a b (suc k) l = append_inside n xs ys (λ j m. a (suc j) (omega (arith, m))) b k (omega (arith, l))

each_inside : (n : ℕ) (fs : List Face) → AllBounded n fs → (c : ℕ) → c < length (corners_from fs) → Inside n (get_or (corners_from fs) c 0)
unfolding AllBounded corners_from
each_inside n [] b c l = absurd (omega (arith, l))
each_inside n (f ∷ fs) b c l =
    append_inside n f.numbers (corners_from fs) (λ k m. record { from = b.0.positive k m; to = b.0.defined k m }) (each_inside n fs b.1) c l

-- each corner of such a text has the number of one of its vertices
pub corner_inside : (text : List ℕ) → line_refusal text ≡ Ok tt → (c : ℕ) → c < length (corners_of text) → Inside (length (vertices_of text)) (get_or (corners_of text) c 0)
unfolding corners_of
corner_inside text h = each_inside (length (vertices_of text)) (faces_of text) (all_bounded text h)

-- ---- how many corners: 3 to 64 a face
corner_count_lem : (n : ℕ) (fs : List Face) → AllBounded n fs → (3 * length fs ≤ length (corners_from fs)) × (length (corners_from fs) ≤ 64 * length fs)
unfolding AllBounded corners_from
corner_count_lem n [] b = (omega arith, omega arith)
corner_count_lem n (f ∷ fs) b =
    let r = corner_count_lem n fs b.1 in
    sum (length (f.numbers ++ corners_from fs)) (length f.numbers) (length (corners_from fs)) (length fs) (length-append f.numbers (corners_from fs)) b.0.least b.0.most r.0 r.1
  where
    sum : (t a b n : ℕ) → t ≡ a + b → 3 ≤ a → a ≤ 64 → 3 * n ≤ b → b ≤ 64 * n → (3 * suc n ≤ t) × (t ≤ 64 * suc n)
    sum t a b n e f g h k = (omega arith, omega arith)

pub corners_least : (text : List ℕ) → line_refusal text ≡ Ok tt → 3 * length (faces_of text) ≤ length (corners_of text)
unfolding corners_of
corners_least text h = (corner_count_lem (length (vertices_of text)) (faces_of text) (all_bounded text h)).0

pub corners_most : (text : List ℕ) → line_refusal text ≡ Ok tt → length (corners_of text) ≤ 64 * length (faces_of text)
unfolding corners_of
corners_most text h = (corner_count_lem (length (vertices_of text)) (faces_of text) (all_bounded text h)).1

-- ---- the corners of each face, after those of the faces before it
corners_next : (fs : List Face) (d : Face) (p : ℕ) → p < length fs → length (corners_from (take (suc p) fs)) ≡ length (corners_from (take p fs)) + length (get_or fs p d).numbers
unfolding corners_from
corners_next [] d p l = absurd (omega (arith, l))
corners_next (f ∷ fs) d zero l = ap length (append-nil f.numbers) ∙ sym (zero-add (length f.numbers))
corners_next (f ∷ fs) d (suc p) l =
    let a = corners_from (take (suc p) fs) in
    let b = corners_from (take p fs) in
    sum (length (f.numbers ++ a)) (length (f.numbers ++ b)) (length f.numbers) (length a) (length b) (length (get_or fs p d).numbers) (length-append f.numbers a) (length-append f.numbers b)
    (corners_next fs d p (omega (arith, l)))
  where
    sum : (x y n a b c : ℕ) → x ≡ n + a → y ≡ n + b → a ≡ b + c → x ≡ y + c
    sum x y n a b c e f g = omega arith

corners_at : (fs : List Face) (d : Face) (p k : ℕ) → p < length fs → k < length (get_or fs p d).numbers
    → get_or (corners_from fs) (length (corners_from (take p fs)) + k) 0 ≡ get_or (get_or fs p d).numbers k 0
unfolding corners_from
corners_at [] d p k l m = absurd (omega (arith, l))
corners_at (f ∷ fs) d zero k l m = ap (λ (i : ℕ). get_or (f.numbers ++ corners_from fs) i 0) (zero-add k) ∙ get_or-append f.numbers (corners_from fs) 0 k m
corners_at (f ∷ fs) d (suc p) k l m =
    let b = corners_from (take p fs) in
    ap (λ (i : ℕ). get_or (f.numbers ++ corners_from fs) i 0) (place (length (f.numbers ++ b)) (length f.numbers) (length b) (length-append f.numbers b))
    ∙ get_or-append-add f.numbers (corners_from fs) (length b + k) 0
    ∙ corners_at fs d p k (omega (arith, l)) m
  where
    place : (x n b : ℕ) → x ≡ n + b → x + k ≡ n + (b + k)
    place x n b e = omega arith

-- one face more has so many corners more; d is what is read past the last face
pub corners_more : (text : List ℕ) (d : Face) (p : ℕ) → p < length (faces_of text)
    → length (corners_from (take (p + 1) (faces_of text))) ≡ length (corners_from (take p (faces_of text))) + length (get_or (faces_of text) p d).numbers
corners_more text d p l = ap (λ (i : ℕ). length (corners_from (take i (faces_of text)))) (add-one p) ∙ corners_next (faces_of text) d p l

-- all faces have all corners
pub corners_all : (text : List ℕ) → length (corners_from (take (length (faces_of text)) (faces_of text))) ≡ length (corners_of text)
unfolding corners_of
corners_all text = ap (λ (fs : List Face). length (corners_from fs)) (take-length (faces_of text))

-- corner k of face p
pub corner_of_face : (text : List ℕ) (d : Face) (p k : ℕ) → p < length (faces_of text) → k < length (get_or (faces_of text) p d).numbers
    → get_or (corners_of text) (length (corners_from (take p (faces_of text))) + k) 0 ≡ get_or (get_or (faces_of text) p d).numbers k 0
unfolding corners_of
corner_of_face text d p k l m = corners_at (faces_of text) d p k l m
