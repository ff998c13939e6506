-- What the faces of a part are: which polygons begin one, and how they are numbered.
use mathlib.Core.Path.{◌≡◌, refl, sym, ap, ◌∙◌, subst}
use mathlib.Core.Bool.{Bool, true, false, ◌&&◌}
use mathlib.Core.Logic.{◌⊎◌, inl, inr}
use Prim.Native.Nat.{ℕ, zero, suc, ◌+◌, ◌≤◌, ◌<◌}
use native.Mathlib.Omega.{arith}
use native.Mathlib.Numerals.{add-one}
use lib.Dec.{eqb}
use borrow.Author.Tests.{eqb-true, eq-eqb}
use Rattle.num_float.proofs.Tests.{refuted, and_true, and_left, and_right, lt_or_ge}
use Rattle.list_laws.proofs.Count.{count_none, count_more, count_same, count_mono, count_less, lowest_le, lowest_passes, lowest_below_lem, lowest_is}
use Rattle.solid_polygon.specs.file_part.specs.declared.read.FaceId.{FaceId}
use Rattle.solid_polygon.specs.file_part.specs.Part.{Part}
use Rattle.solid_faces.specs.Faces.{same_face, first_of, is_new, face_count, faces_of, face_number, first_polygon}

-- ---- one face
abbrev id : ℕ → ℕ → FaceId
id f i = record { feature = f; index = i }

pub same_is : (a b : FaceId) → same_face a b ≡ true → a ≡ b
unfolding same_face
same_is a b h =
    ap (λ (f : ℕ). id f a.index) (eqb-true a.feature b.feature (and_left (eqb a.feature b.feature) (eqb a.index b.index) h))
    ∙ ap (id b.feature) (eqb-true a.index b.index (and_right (eqb a.feature b.feature) (eqb a.index b.index) h))

pub is_same : (a b : FaceId) → a ≡ b → same_face a b ≡ true
unfolding same_face
is_same a b e =
    and_true (eqb a.feature b.feature) (eqb a.index b.index)
    (eq-eqb _ _ (ap (λ (x : FaceId). x.feature) e)) (eq-eqb _ _ (ap (λ (x : FaceId). x.index) e))

-- polygons q and p of a part are of one face
abbrev OneFace : Part → ℕ → ℕ → Type 0
OneFace t q p = (t.polygon q).face ≡ (t.polygon p).face

-- ---- the first polygon of a face
pub first_le : (t : Part) (p : ℕ) → first_of t p ≤ p
unfolding first_of
first_le t p = lowest_le p (λ q. same_face (t.polygon q).face (t.polygon p).face)

pub first_same : (t : Part) (p : ℕ) → OneFace t (first_of t p) p
unfolding first_of
first_same t p = go (lt_or_ge (first_of t p) p)
  where
    go : (first_of t p < p) ⊎ (p ≤ first_of t p) → OneFace t (first_of t p) p
    go (inl below) = same_is _ _ (lowest_passes p (λ q. same_face (t.polygon q).face (t.polygon p).face) below)
    go (inr above) =
        let here : first_of t p ≡ p = omega (arith, above, first_le t p) in
        ap (λ (k : ℕ). (t.polygon k).face) here

-- no polygon of the face is lower
pub first_least : (t : Part) (p q : ℕ) → OneFace t q p → first_of t p ≤ q
unfolding first_of
first_least t p q e = lowest_below_lem p (λ q. same_face (t.polygon q).face (t.polygon p).face) q (is_same _ _ e)

-- two polygons of one face have one first polygon
pub first_agrees : (t : Part) (p q : ℕ) → OneFace t q p → first_of t q ≡ first_of t p
first_agrees t p q e =
    omega (arith, first_least t p (first_of t q) (first_same t q ∙ e), first_least t q (first_of t p) (first_same t p ∙ sym e))

-- ---- polygons that begin a face
pub new_is : (t : Part) (p : ℕ) → is_new t p ≡ true → first_of t p ≡ p
unfolding is_new
new_is t p h = eqb-true _ _ h

pub is_new_lem : (t : Part) (p : ℕ) → first_of t p ≡ p → is_new t p ≡ true
unfolding is_new
is_new_lem t p e = eq-eqb _ _ e

pub first_new : (t : Part) (p : ℕ) → is_new t (first_of t p) ≡ true
first_new t p = is_new_lem t (first_of t p) (first_agrees t p (first_of t p) (first_same t p))

old : (t : Part) (p : ℕ) → first_of t p < p → is_new t p ≡ false
old t p l = refuted _ (λ h. omega (arith, l, new_is t p h))

-- ---- numbers
pub count_start : (t : Part) → 0 ≡ face_count t 0
unfolding face_count
count_start t = sym (count_none (is_new t))

pub count_new : (t : Part) (p : ℕ) → is_new t p ≡ true → face_count t (p + 1) ≡ face_count t p + 1
unfolding face_count
count_new t p h = count_more p (is_new t) h

pub count_old : (t : Part) (p : ℕ) → is_new t p ≡ false → face_count t (p + 1) ≡ face_count t p
unfolding face_count
count_old t p h = count_same p (is_new t) h

pub count_grows : (t : Part) (p q : ℕ) → p ≤ q → face_count t p ≤ face_count t q
unfolding face_count
count_grows t p q l = count_mono p q (is_new t) l

pub count_passes : (t : Part) (p q : ℕ) → p < q → is_new t p ≡ true → face_count t p < face_count t q
unfolding face_count
count_passes t p q l h = count_less p q (is_new t) l h

-- of polygons that begin a face, no two have as many faces before them
pub new_apart : (t : Part) (p q : ℕ) → is_new t p ≡ true → is_new t q ≡ true → face_count t p ≡ face_count t q → p ≡ q
new_apart t p q a b e = go (lt_or_ge p q) (lt_or_ge q p)
  where
    go : (p < q) ⊎ (q ≤ p) → (q < p) ⊎ (p ≤ q) → p ≡ q
    go (inl l) other = absurd (omega (arith, e, count_passes t p q l a))
    go (inr g) (inl l) = absurd (omega (arith, e, count_passes t q p l b))
    go (inr g) (inr l) = omega (arith, g, l)

pub number_new : (t : Part) (p : ℕ) → is_new t p ≡ true → face_number t p ≡ face_count t p
unfolding face_number
number_new t p h = ap (face_count t) (new_is t p h)

-- a face's number is that of its first polygon
pub number_first : (t : Part) (p : ℕ) → face_number t p ≡ face_count t (first_of t p)
unfolding face_number
number_first t p = refl

pub number_below_count : (t : Part) (p n : ℕ) → p < n → face_number t p < face_count t n
number_below_count t p n l =
    omega (arith, number_first t p, count_passes t (first_of t p) n (omega (arith, l, first_le t p)) (first_new t p))

pub number_below : (t : Part) (p : ℕ) → p < t.polygons → face_number t p < faces_of t
unfolding faces_of
number_below t p l = number_below_count t p t.polygons l

-- ---- one number is one face
pub number_same : (t : Part) (p q : ℕ) → same_face (t.polygon q).face (t.polygon p).face ≡ true → face_number t q ≡ face_number t p
unfolding face_number
number_same t p q h = ap (face_count t) (first_agrees t p q (same_is _ _ h))

pub same_number : (t : Part) (p q : ℕ) → face_number t q ≡ face_number t p → same_face (t.polygon q).face (t.polygon p).face ≡ true
same_number t p q e =
    let first : first_of t q ≡ first_of t p
    = new_apart t (first_of t q) (first_of t p) (first_new t q) (first_new t p) (sym (number_first t q) ∙ e ∙ number_first t p) in
    is_same _ _ (sym (first_same t q) ∙ ap (λ (k : ℕ). (t.polygon k).face) first ∙ first_same t p)

-- ---- the first polygon of a face by its number
pub first_polygon_new : (t : Part) (p f : ℕ) → p < t.polygons → is_new t p ≡ true → face_count t p ≡ f → first_polygon t f ≡ p
unfolding first_polygon
first_polygon_new t p f l h e =
    lowest_is t.polygons (λ q. is_new t q && eqb (face_number t q) f) p (omega (arith, l))
    (λ below. and_true _ _ h (eq-eqb _ _ (number_new t p h ∙ e)))
    (λ q lower. refuted _ (earlier q lower))
  where
    earlier : (q : ℕ) → q < p → (is_new t q && eqb (face_number t q) f) ≡ true → ⊥
    earlier q lower both =
        let new = and_left (is_new t q) (eqb (face_number t q) f) both in
        let same : face_number t q ≡ f = eqb-true _ _ (and_right (is_new t q) (eqb (face_number t q) f) both) in
        omega (arith, number_new t q new, same, e, count_passes t q p lower new)

pub first_polygon_lem : (t : Part) (p : ℕ) → p < t.polygons → first_polygon t (face_number t p) ≡ first_of t p
first_polygon_lem t p l =
    first_polygon_new t (first_of t p) (face_number t p) (omega (arith, l, first_le t p)) (first_new t p) (sym (number_first t p))

-- each number below the number of faces has a polygon that begins its face
pub record Begins (t : Part) (n f q : ℕ) : Type 0 where
  pub below : q < n
  pub new : is_new t q ≡ true
  pub number : face_number t q ≡ f

-- one polygon more
begins_more : (t : Part) (f n : ℕ) → (f < face_count t n → (q : ℕ) × Begins t n f q) → f < face_count t (n + 1) → (q : ℕ) × Begins t (n + 1) f q
begins_more t f n before l = go (is_new t n) refl
  where
    earlier : f < face_count t n → (q : ℕ) × Begins t (n + 1) f q
    earlier low =
        let b = before low in
        (b.0, record { below = omega (arith, b.1.below); new = b.1.new; number = b.1.number })

    last : is_new t n ≡ true → (f < face_count t n) ⊎ (face_count t n ≤ f) → (q : ℕ) × Begins t (n + 1) f q
    last new (inl low) = earlier low
    last new (inr high) =
        let here : face_count t n ≡ f = omega (arith, l, high, count_new t n new) in
        (n, record { below = omega arith; new = new; number = number_new t n new ∙ here })

    go : (b : Bool) → is_new t n ≡ b → (q : ℕ) × Begins t (n + 1) f q
    go true new = last new (lt_or_ge f (face_count t n))
    go false old = earlier (omega (arith, l, count_old t n old))

begins : (t : Part) (f n : ℕ) → f < face_count t n → (q : ℕ) × Begins t n f q
begins t f zero l = absurd (omega (arith, l, count_start t))
begins t f (suc n) l =
    subst (λ (k : ℕ). (q : ℕ) × Begins t k f q) (add-one n)
    (begins_more t f n (begins t f n) (subst (λ (k : ℕ). f < face_count t k) (sym (add-one n)) l))

pub first_polygon_begins : (t : Part) (f : ℕ) → f < faces_of t → Begins t t.polygons f (first_polygon t f)
unfolding faces_of
first_polygon_begins t f l =
    let b = begins t f t.polygons l in
    let number : face_count t b.0 ≡ f = sym (number_new t b.0 b.1.new) ∙ b.1.number in
    let same : first_polygon t f ≡ b.0 = first_polygon_new t b.0 f b.1.below b.1.new number in
    subst (λ (q : ℕ). Begins t t.polygons f q) (sym same) b.1
