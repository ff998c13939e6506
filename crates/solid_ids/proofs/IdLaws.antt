-- The ids of faces: each face has a first polygon, faces of different numbers have different ids, and the order of the ids.
use mathlib.Core.Path.{◌≡◌, refl, sym, ap, ◌∙◌, subst}
use mathlib.Core.Bool.{Bool, true, false, ◌&&◌, ◌||◌}
use mathlib.Core.Logic.{◌⊎◌, inl, inr}
use Prim.Native.Nat.{ℕ, zero, suc, ◌+◌, ◌≤◌, ◌<◌}
use native.Mathlib.Numerals.{add-one}
use native.Mathlib.Omega.{arith}
use lib.Dec.{eqb, ltb}
use borrow.Author.Tests.{eqb-true, eq-eqb, ltb-true, lt-ltb}
use Rattle.num_float.proofs.Tests.{refuted, contrary, and_true, and_left, and_right, lt_or_ge}
use Rattle.file_part.specs.declared.read.FaceId.{FaceId}
use Rattle.file_part.specs.Part.{Part}
use Rattle.solid_faces.specs.Faces.{is_new, face_count, faces_of, face_number, first_polygon}
use Rattle.solid_faces.proofs.FaceLaws.{is_same, count_start, count_new, count_old, number_new, number_same, first_polygon_new}
use Rattle.solid_ids.specs.Ids.{id_before, id_of, face_before}

-- ---- the polygon that begins face g
pub record Begins (t : Part) (n g p : ℕ) : Type 0 where
  pub below : p < n
  pub new : is_new t p ≡ true
  pub number : face_count t p ≡ g

begins_wider : (t : Part) (n g p : ℕ) → Begins t n g p → Begins t (suc n) g p
begins_wider t n g p h = record { below = omega (arith, h.below); new = h.new; number = h.number }

-- some polygon below n begins it, where it is one of the faces of those
record Some (t : Part) (n g : ℕ) : Type 0 where
  polygon : ℕ
  begins : Begins t n g polygon

some_begins : (t : Part) (n g : ℕ) → g < face_count t n → Some t n g
some_begins t zero g l = absurd (omega (arith, l, count_start t))
some_begins t (suc n) g l = go (some_begins t n g) (lt_or_ge g (face_count t n))
  where
    last : (b : Bool) → is_new t n ≡ b → face_count t n ≤ g → Some t (suc n) g
    last true e above =
        let one : face_count t (suc n) ≡ face_count t n + 1 = ap (face_count t) (sym (add-one n)) ∙ count_new t n e in
        record { polygon = n; begins = record { below = omega arith; new = e; number = omega (arith, one, l, above) } }
    last false e above =
        let one : face_count t (suc n) ≡ face_count t n = ap (face_count t) (sym (add-one n)) ∙ count_old t n e in
        absurd (omega (arith, one, l, above))

    go : (g < face_count t n → Some t n g) → (g < face_count t n) ⊎ (face_count t n ≤ g) → Some t (suc n) g
    go before (inl lower) = record { polygon = (before lower).polygon; begins = begins_wider t n g (before lower).polygon (before lower).begins }
    go before (inr above) = last (is_new t n) refl above

pub first_begins : (t : Part) (g : ℕ) → g < faces_of t → Begins t t.polygons g (first_polygon t g)
unfolding faces_of
first_begins t g l =
    let some = some_begins t t.polygons g l in
    let p = some.polygon in
    let h = some.begins in
    subst (Begins t t.polygons g) (sym (first_polygon_new t p g h.below h.new h.number)) h

pub first_below : (t : Part) (g : ℕ) → g < faces_of t → first_polygon t g < t.polygons
first_below t g l = (first_begins t g l).below

-- a face's number is that of its first polygon
pub first_number : (t : Part) (g : ℕ) → g < faces_of t → face_number t (first_polygon t g) ≡ g
first_number t g l = let h = first_begins t g l in number_new t (first_polygon t g) h.new ∙ h.number

-- ---- one id is one face
pub ids_apart : (t : Part) (g h : ℕ) → g < faces_of t → h < faces_of t → id_of t g ≡ id_of t h → g ≡ h
unfolding id_of
ids_apart t g h l m e =
    sym (first_number t g l) ∙ number_same t (first_polygon t h) (first_polygon t g) (is_same _ _ e) ∙ first_number t h m

-- ---- the order of ids
-- a is before b: a lower feature, or the same and a lower index
abbrev Before : FaceId → FaceId → Type 0
Before a b = (a.feature < b.feature) ⊎ ((a.feature ≡ b.feature) × (a.index < b.index))

or_cases : (a b : Bool) → (a || b) ≡ true → (a ≡ true) ⊎ (b ≡ true)
or_cases true b h = inl refl
or_cases false b h = inr h

or_first : (a b : Bool) → a ≡ true → (a || b) ≡ true
or_first true b h = refl
or_first false b h = absurd (contrary h refl)

or_second : (a b : Bool) → b ≡ true → (a || b) ≡ true
or_second true b h = refl
or_second false b h = h

pub id_before_lem : (a b : FaceId) → id_before a b ≡ true → Before a b
unfolding id_before
id_before_lem a b h = go (or_cases (ltb a.feature b.feature) (eqb a.feature b.feature && ltb a.index b.index) h)
  where
    go : (ltb a.feature b.feature ≡ true) ⊎ ((eqb a.feature b.feature && ltb a.index b.index) ≡ true) → Before a b
    go (inl lower) = inl (ltb-true _ _ lower)
    go (inr both) = inr (
      eqb-true _ _ (and_left (eqb a.feature b.feature) (ltb a.index b.index) both),
      ltb-true _ _ (and_right (eqb a.feature b.feature) (ltb a.index b.index) both),
    )

pub before_id : (a b : FaceId) → Before a b → id_before a b ≡ true
unfolding id_before
before_id a b (inl lower) = or_first (ltb a.feature b.feature) (eqb a.feature b.feature && ltb a.index b.index) (lt-ltb _ _ lower)
before_id a b (inr both) =
    or_second (ltb a.feature b.feature) (eqb a.feature b.feature && ltb a.index b.index)
    (and_true (eqb a.feature b.feature) (ltb a.index b.index) (eq-eqb _ _ both.0) (lt-ltb _ _ both.1))

-- no id is before itself
pub id_irreflexive : (a : FaceId) → id_before a a ≡ false
id_irreflexive a = refuted (id_before a a) (λ h. go (id_before_lem a a h))
  where
    go : Before a a → ⊥
    go (inl lower) = omega (arith, lower)
    go (inr both) = omega (arith, both.1)

pub id_transitive : (a b c : FaceId) → id_before a b ≡ true → id_before b c ≡ true → id_before a c ≡ true
id_transitive a b c h k = before_id a c (go (id_before_lem a b h) (id_before_lem b c k))
  where
    go : Before a b → Before b c → Before a c
    go (inl x) (inl y) = inl (omega (arith, x, y))
    go (inl x) (inr y) = inl (omega (arith, x, y.0))
    go (inr x) (inl y) = inl (omega (arith, x.0, y))
    go (inr x) (inr y) = inr (x.0 ∙ y.0, omega (arith, x.1, y.1))

-- of two ids of which neither is before the other, both are one
abbrev id : ℕ → ℕ → FaceId
id f i = record { feature = f; index = i }

pub id_total : (a b : FaceId) → id_before a b ≡ false → id_before b a ≡ false → a ≡ b
id_total a b h k = go (lt_or_ge a.feature b.feature) (lt_or_ge b.feature a.feature) (lt_or_ge a.index b.index) (lt_or_ge b.index a.index)
  where
    go : (a.feature < b.feature) ⊎ (b.feature ≤ a.feature) → (b.feature < a.feature) ⊎ (a.feature ≤ b.feature) →
        (a.index < b.index) ⊎ (b.index ≤ a.index) → (b.index < a.index) ⊎ (a.index ≤ b.index) → a ≡ b
    go (inl x) y u v = absurd (contrary (before_id a b (inl x)) h)
    go (inr x) (inl y) u v = absurd (contrary (before_id b a (inl y)) k)
    go (inr x) (inr y) (inl u) v = absurd (contrary (before_id a b (inr (omega (arith, x, y), u))) h)
    go (inr x) (inr y) (inr u) (inl v) = absurd (contrary (before_id b a (inr (omega (arith, x, y), v))) k)
    go (inr x) (inr y) (inr u) (inr v) =
        let feature : a.feature ≡ b.feature = omega (arith, x, y) in
        let index : a.index ≡ b.index = omega (arith, u, v) in
        ap (λ (f : ℕ). id f a.index) feature ∙ ap (id b.feature) index

-- ---- and so of faces
pub face_irreflexive : (t : Part) (g : ℕ) → face_before t g g ≡ false
unfolding face_before
face_irreflexive t g = id_irreflexive (id_of t g)

pub face_transitive : (t : Part) (g h k : ℕ) → face_before t g h ≡ true → face_before t h k ≡ true → face_before t g k ≡ true
unfolding face_before
face_transitive t g h k a b = id_transitive (id_of t g) (id_of t h) (id_of t k) a b

-- of two faces one is before the other, or they are one
pub face_total : (t : Part) (g h : ℕ) → g < faces_of t → h < faces_of t → face_before t g h ≡ false → face_before t h g ≡ false → g ≡ h
unfolding face_before
face_total t g h l m a b = ids_apart t g h l m (id_total (id_of t g) (id_of t h) a b)
