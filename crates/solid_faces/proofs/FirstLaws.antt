-- The loops that number the faces, one step each: what is kept of the faces so far, when one polygon more is looked at.
use mathlib.Core.Path.{◌≡◌, refl, sym, ap, ◌∙◌, subst}
use mathlib.Core.Bool.{Bool, true, false, cond}
use mathlib.Core.List.{List}
use mathlib.Core.Logic.{◌⊎◌, inl, inr}
use Prim.Native.Nat.{ℕ, ◌+◌, ◌≤◌, ◌<◌}
use native.Mathlib.Omega.{arith}
use native.Mathlib.Nat.{le_antisymm}
use lib.Dec.{eqb, leb}
use lib.ListN.{length, get_or, set, length-set}
use lib.Seq.{get_or-set_same, get_or-set_other}
use borrow.Author.Tests.{eq-eqb, ne_eqb, le-leb, lt-leb}
use Rattle.num_float.proofs.Tests.{contrary, lt_or_ge, refuted}
use Rattle.solid_polygon.specs.file_part.specs.Part.{Part}
use Rattle.solid_faces.specs.Faces.{same_face, first_of, is_new, face_count, faces_of, face_number, first_polygon}
use Rattle.solid_faces.specs.Kept.{FaceNumbers, Faces}
use Rattle.solid_faces.specs.Work.{from, Firsts}
use Rattle.solid_faces.proofs.FaceLaws.{first_le, first_same, first_new, is_new_lem, is_same, count_start, count_new, count_old, count_grows, count_passes, new_apart, number_new, number_first, number_below, number_same, first_polygon_new}

-- ---- the face of the next polygon
-- one of those so far
firsts_found : (t : Part) (p n : ℕ) (first : ℕ → ℕ) (f : ℕ) → Firsts t p n first → f < n →
    same_face (t.polygon (first f)).face (t.polygon p).face ≡ true → f ≡ face_number t p
firsts_found t p n first f h l same =
    sym (h.number f l) ∙ sym (number_new t (first f) (h.new f l)) ∙ number_same t p (first f) same

-- a polygon that begins a face is among them
firsts_has : (t : Part) (p n : ℕ) (first : ℕ → ℕ) (q : ℕ) → Firsts t p n first → q < p → is_new t q ≡ true →
    (face_count t q < n) × (first (face_count t q) ≡ q)
firsts_has t p n first q h l new =
    let below : face_count t q < n = omega (arith, h.count, count_passes t q p l new) in
    (below, new_apart t (first (face_count t q)) q (h.new (face_count t q) below) new (h.number (face_count t q) below))

-- none of them
pub firsts_missed : (t : Part) (p n : ℕ) (first : ℕ → ℕ) → Firsts t p n first →
    ((g : ℕ) → g < n → same_face (t.polygon (first g)).face (t.polygon p).face ≡ false) → n ≡ face_number t p
firsts_missed t p n first h none = go (lt_or_ge (first_of t p) p)
  where
    go : (first_of t p < p) ⊎ (p ≤ first_of t p) → n ≡ face_number t p
    go (inl below) =
        let has = firsts_has t p n first (first_of t p) h below (first_new t p) in
        absurd (contrary (is_same _ _ (ap (λ (k : ℕ). (t.polygon k).face) has.1 ∙ first_same t p))
        (none (face_count t (first_of t p)) has.0))
    go (inr above) =
        let here : first_of t p ≡ p = omega (arith, above, first_le t p) in
        h.count ∙ sym (ap (face_count t) here) ∙ sym (number_first t p)

-- ---- one polygon more
pub firsts_none : (t : Part) (first : ℕ → ℕ) → Firsts t 0 0 first
firsts_none t first =
    record {
      count = count_start t;
      early = λ f l. absurd (omega (arith, l));
      new = λ f l. absurd (omega (arith, l));
      number = λ f l. absurd (omega (arith, l));
    }

pub firsts_as : (t : Part) (p n : ℕ) (a b : ℕ → ℕ) → Firsts t p n a → ((f : ℕ) → f < n → b f ≡ a f) → Firsts t p n b
firsts_as t p n a b h same =
    record {
      count = h.count;
      early = λ f l. subst (λ (q : ℕ). q < p) (sym (same f l)) (h.early f l);
      new = λ f l. subst (λ (q : ℕ). is_new t q ≡ true) (sym (same f l)) (h.new f l);
      number = λ f l. subst (λ (q : ℕ). face_count t q ≡ f) (sym (same f l)) (h.number f l);
    }

-- they are as many as anywhere
pub firsts_count : (t : Part) (p n m : ℕ) (a b : ℕ → ℕ) → Firsts t p n a → Firsts t p m b → Firsts t p m a
firsts_count t p n m a b h g = subst (λ (k : ℕ). Firsts t p k a) (h.count ∙ sym g.count) h

-- its face is new where its number is the next one, and only there
pub number_next : (t : Part) (p : ℕ) → face_number t p ≡ face_count t p → is_new t p ≡ true
number_next t p e = go (lt_or_ge (first_of t p) p)
  where
    go : (first_of t p < p) ⊎ (p ≤ first_of t p) → is_new t p ≡ true
    go (inl below) = absurd (omega (arith, e, number_first t p, count_passes t (first_of t p) p below (first_new t p)))
    go (inr above) = is_new_lem t p (omega (arith, above, first_le t p))

pub number_le : (t : Part) (p : ℕ) → face_number t p ≤ face_count t p
number_le t p = omega (arith, number_first t p, count_grows t (first_of t p) p (first_le t p))

pub firsts_old : (t : Part) (p n : ℕ) (first : ℕ → ℕ) → Firsts t p n first → is_new t p ≡ false → Firsts t (p + 1) n first
firsts_old t p n first h old =
    record {
      count = h.count ∙ sym (count_old t p old);
      early = λ f l. omega (arith, h.early f l);
      new = h.new;
      number = h.number;
    }

pub firsts_new : (t : Part) (p n : ℕ) (first : ℕ → ℕ) → Firsts t p n first → is_new t p ≡ true → first n ≡ p → Firsts t (p + 1) (n + 1) first
firsts_new t p n first h new last =
    record {
      count = omega (arith, h.count, count_new t p new);
      early = λ f l. early f l (lt_or_ge f n);
      new = λ f l. begins f l (lt_or_ge f n);
      number = λ f l. number f l (lt_or_ge f n);
    }
  where
    here : (f : ℕ) → f < n + 1 → n ≤ f → n ≡ f
    here f l g = omega (arith, l, g)

    early : (f : ℕ) → f < n + 1 → (f < n) ⊎ (n ≤ f) → first f < p + 1
    early f l (inl below) = omega (arith, h.early f below)
    early f l (inr above) = subst (λ (k : ℕ). first k < p + 1) (here f l above) (omega (arith, last))

    begins : (f : ℕ) → f < n + 1 → (f < n) ⊎ (n ≤ f) → is_new t (first f) ≡ true
    begins f l (inl below) = h.new f below
    begins f l (inr above) =
        subst (λ (k : ℕ). is_new t (first k) ≡ true) (here f l above) (subst (λ (q : ℕ). is_new t q ≡ true) (sym last) new)

    number : (f : ℕ) → f < n + 1 → (f < n) ⊎ (n ≤ f) → face_count t (first f) ≡ f
    number f l (inl below) = h.number f below
    number f l (inr above) = ap (λ (k : ℕ). face_count t (first k)) (sym (here f l above)) ∙ ap (face_count t) last ∙ sym h.count ∙ here f l above

-- ---- in a list
from_set_same : (l : List ℕ) (start f x : ℕ) → start + f < length l → from (set l (start + f) x) start f ≡ x
unfolding from
from_set_same l start f x h = get_or-set_same l (start + f) x 0 h

from_set_other : (l : List ℕ) (start i f x : ℕ) → (start + f ≡ i → ⊥) → from (set l i x) start f ≡ from l start f
unfolding from
from_set_other l start i f x h = get_or-set_other l i (start + f) x 0 h

pub from_early : (t : Part) (p n m : ℕ) (l : List ℕ) (start f : ℕ) → Firsts t p n (from l start) → f < n → p < m → get_or l (start + f) 0 < m
unfolding from
from_early t p n m l start f h low less = omega (arith, h.early f low, less)

-- the same laws at a kept one
pub from_found : (t : Part) (p n : ℕ) (l : List ℕ) (start f : ℕ) (b : Bool) → Firsts t p n (from l start) → f < n →
    b ≡ same_face (t.polygon (get_or l (start + f) 0)).face (t.polygon p).face → b ≡ true → f ≡ face_number t p
unfolding from
from_found t p n l start f b h low e same = firsts_found t p n (from l start) f h low (sym e ∙ same)

-- what `note` leaves
pub record Noted (l l' : List ℕ) (start n f p r : ℕ) : Type 0 where
  pub count : r ≡ cond (eqb f n) (n + 1) n
  pub list : l' ≡ cond (eqb f n) (set l (start + f) p) l

pub noted_length : (l l' : List ℕ) (start n f p r : ℕ) → Noted l l' start n f p r → length l' ≡ length l
noted_length l l' start n f p r h = ap length h.list ∙ go (eqb f n)
  where
    go : (b : Bool) → length (cond b (set l (start + f) p) l) ≡ length l
    go true = length-set l (start + f) p
    go false = refl

-- what stands before the first polygons is not touched
noted_before : (l l' : List ℕ) (start n f p r q : ℕ) → Noted l l' start n f p r → q < start → get_or l' q 0 ≡ get_or l q 0
noted_before l l' start n f p r q h low = ap (λ (x : List ℕ). get_or x q 0) h.list ∙ go (eqb f n)
  where
    go : (b : Bool) → get_or (cond b (set l (start + f) p) l) q 0 ≡ get_or l q 0
    go true = get_or-set_other l (start + f) q p 0 (λ e. omega (arith, e, low))
    go false = refl

pub noted : (t : Part) (l l' : List ℕ) (start n f p r : ℕ) → Noted l l' start n f p r → start + f < length l → f ≡ face_number t p →
    Firsts t p n (from l start) → Firsts t (p + 1) r (from l' start)
noted t l l' start n f p r h room e firsts = go (lt_or_ge f n)
  where
    le : f ≤ n
    le = omega (arith, e, firsts.count, number_le t p)

    go : (f < n) ⊎ (n ≤ f) → Firsts t (p + 1) r (from l' start)
    go (inl below) =
        let other : eqb f n ≡ false = ne_eqb f n (λ same. omega (arith, same, below)) in
        let old : is_new t p ≡ false = refuted _ (λ new. omega (arith, e, below, firsts.count, number_new t p new)) in
        let count : r ≡ n = h.count ∙ ap (λ (b : Bool). cond b (n + 1) n) other in
        let list : l' ≡ l = h.list ∙ ap (λ (b : Bool). cond b (set l (start + f) p) l) other in
        subst (λ (k : ℕ). Firsts t (p + 1) k (from l' start)) (sym count)
        (subst (λ (x : List ℕ). Firsts t (p + 1) n (from x start)) (sym list) (firsts_old t p n (from l start) firsts old))
    go (inr above) =
        let same : f ≡ n = omega (arith, le, above) in
        let equal : eqb f n ≡ true = eq-eqb f n same in
        let new : is_new t p ≡ true = number_next t p (sym e ∙ same ∙ firsts.count) in
        let count : r ≡ n + 1 = h.count ∙ ap (λ (b : Bool). cond b (n + 1) n) equal in
        let list : l' ≡ set l (start + f) p = h.list ∙ ap (λ (b : Bool). cond b (set l (start + f) p) l) equal in
        let kept : Firsts t p n (from (set l (start + f) p) start)
        = firsts_as t p n (from l start) (from (set l (start + f) p) start) firsts
        (λ g lower. from_set_other l start (start + f) g p (λ at. omega (arith, at, lower, same))) in
        let last : from (set l (start + f) p) start n ≡ p
        = ap (from (set l (start + f) p) start) (sym same) ∙ from_set_same l start f p room in
        subst (λ (k : ℕ). Firsts t (p + 1) k (from l' start)) (sym count)
        (subst (λ (x : List ℕ). Firsts t (p + 1) (n + 1) (from x start)) (sym list) (firsts_new t p n (from (set l (start + f) p) start) kept new last))

-- ---- the face of each polygon, and after them the first polygons
pub numbers_none : (t : Part) (l : List ℕ) → FaceNumbers t 0 l
numbers_none t l = record { each = λ q l. absurd (omega (arith, l)); long = omega arith }

-- polygon p's number goes to its place
stored : (t : Part) (l : List ℕ) (f p : ℕ) → p < length l → f ≡ face_number t p → FaceNumbers t p l → FaceNumbers t (p + 1) (set l p f)
stored t l f p room e h = record { each = λ q low. go q low (lt_or_ge q p); long = omega (arith, room, length-set l p f) }
  where
    go : (q : ℕ) → q < p + 1 → (q < p) ⊎ (p ≤ q) → get_or (set l p f) q 0 ≡ face_number t q
    go q low (inl below) = get_or-set_other l p q f 0 (λ at. omega (arith, at, below)) ∙ h.each q below
    go q low (inr above) =
        let here : p ≡ q = omega (arith, low, above) in
        subst (λ (k : ℕ). get_or (set l p f) k 0 ≡ face_number t k) here (get_or-set_same l p f 0 room ∙ e)

pub record FacesTurn (t : Part) (l l' : List ℕ) (p r P : ℕ) : Type 0 where
  pub firsts : Firsts t (p + 1) r (from l' P)
  pub numbers : FaceNumbers t (p + 1) l'
  pub long : length l' ≡ length l

pub faces_turn : (t : Part) (l l' : List ℕ) (n f p r P : ℕ) → p < P → P + f < length l → f ≡ face_number t p → Noted (set l p f) l' P n f p r →
    Firsts t p n (from l P) → FaceNumbers t p l → FacesTurn t l l' p r P
faces_turn t l l' n f p r P low room e h firsts numbers =
    let long : length (set l p f) ≡ length l = length-set l p f in
    let first : Firsts t p n (from (set l p f) P)
    = firsts_as t p n (from l P) (from (set l p f) P) firsts (λ g lower. from_set_other l P p g f (λ at. omega (arith, at, low))) in
    let all : FaceNumbers t (p + 1) (set l p f) = stored t l f p (omega (arith, low, room)) e numbers in
    record {
      firsts = noted t (set l p f) l' P n f p r h (omega (arith, room, long)) e first;
      numbers = record {
        each = λ q lower. noted_before (set l p f) l' P n f p r q h (omega (arith, low, lower)) ∙ all.each q lower;
        long = omega (arith, low, room, long, noted_length (set l p f) l' P n f p r h);
      };
      long = noted_length (set l p f) l' P n f p r h ∙ long;
    }

pub faces_done : (t : Part) (l : List ℕ) (n p P : ℕ) → P ≡ t.polygons → p ≤ P → P ≤ p → Firsts t p n (from l P) → FaceNumbers t p l →
    (n ≡ faces_of t) × Faces t l
unfolding faces_of from
faces_done t l n p P e a b firsts numbers =
    let all : p ≡ t.polygons = le_antisymm a b ∙ e in
    let count : n ≡ face_count t t.polygons = firsts.count ∙ ap (face_count t) all in (
      count,
      record {
        numbers = subst (λ (k : ℕ). FaceNumbers t k l) all numbers;
        firsts = λ f low. first f (omega (arith, low, count));
      },
    )
  where
    first : (f : ℕ) → f < n → get_or l (t.polygons + f) 0 ≡ first_polygon t f
    first f low =
        ap (λ (k : ℕ). get_or l (k + f) 0) (sym e)
        ∙ sym (first_polygon_new t (from l P f) f (omega (arith, firsts.early f low, a, e)) (firsts.new f low) (firsts.number f low))

-- ---- at most 1,024 faces
pub few_next : (t : Part) (first : ℕ → ℕ) (n p f : ℕ) → Firsts t p n first → n ≤ 1024 → f ≡ face_number t p → (f ≡ 1024 → ⊥) → f < 1024
few_next t first n p f h most e other = omega (arith, h.count, number_le t p, most, e, other)

pub many_faces : (t : Part) (p f : ℕ) → p < t.polygons → f ≡ face_number t p → f ≡ 1024 → false ≡ leb (faces_of t) 1024
many_faces t p f low e most = sym (lt-leb (faces_of t) 1024 (omega (arith, e, most, number_below t p low)))

pub few_faces : (t : Part) (first : ℕ → ℕ) (n p P : ℕ) → P ≡ t.polygons → p ≤ P → P ≤ p → n ≤ 1024 → Firsts t p n first → true ≡ leb (faces_of t) 1024
unfolding faces_of
few_faces t first n p P e a b most h =
    let all : p ≡ t.polygons = le_antisymm a b ∙ e in
    let count : n ≡ face_count t t.polygons = h.count ∙ ap (face_count t) all in
    sym (le-leb (face_count t t.polygons) 1024 (omega (arith, most, count)))
