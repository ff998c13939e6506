-- The loops that keep areas and planes, one step each.
use mathlib.Core.Path.{◌≡◌, refl, sym, ap, ◌∙◌, subst}
use mathlib.Core.Bool.{cond}
use mathlib.Core.List.{List, [], ◌∷◌}
use mathlib.Core.Logic.{◌⊎◌, inl, inr}
use Prim.Native.Nat.{ℕ, suc, ◌+◌, ◌*◌, ◌≤◌, ◌<◌}
use native.Mathlib.Omega.{arith}
use native.Mathlib.Numerals.{add-one}
use native.Mathlib.Nat.{le_antisymm, add-zero}
use lib.Dec.{eqb, lit<}
use lib.ListN.{length, get_or, set, replicate, length-set, length-replicate}
use lib.Seq.{get_or-set_same, get_or-set_other}
use lib.Ieee.{Float, binary64, add, nan}
use borrow.Author.Tests.{eq-eqb, ne_eqb}
use Rattle.num_float.proofs.Tests.{lt_or_ge}
use Rattle.list_laws.proofs.Fill.{filled_at}
use Rattle.list_laws.proofs.Stores.{stores, stores_length, stores_below, stores_at}
use Rattle.math.specs.Vector as vector
use Rattle.solid_polygon.specs.file_part.specs.Part.{Part}
use Rattle.solid_polygon.specs.declared.polygon.Plane.{Plane}
use Rattle.solid_faces.specs.Faces.{face_number, polygon_area, polygon_plane, face_area_to, face_area}
use Rattle.solid_faces.specs.Kept.{KeptAreas, FaceAreas, plane_at_of, KeptPlanes}
use Rattle.solid_faces.specs.Work.{AreasTo, put_plane}

-- ---- the area of each polygon
pub areas_more : (t : Part) (p : ℕ) (l : List Float) (x : Float) → p < length l → x ≡ polygon_area t p → KeptAreas t p l → KeptAreas t (p + 1) (set l p x)
areas_more t p l x room e h = record { each = λ q low. go q low (lt_or_ge q p); long = omega (arith, room, length-set l p x) }
  where
    go : (q : ℕ) → q < p + 1 → (q < p) ⊎ (p ≤ q) → get_or (set l p x) q nan ≡ polygon_area t q
    go q low (inl below) = get_or-set_other l p q x nan (λ at. omega (arith, at, below)) ∙ h.each q below
    go q low (inr above) =
        let here : p ≡ q = omega (arith, low, above) in
        subst (λ (k : ℕ). get_or (set l p x) k nan ≡ polygon_area t k) here (get_or-set_same l p x nan room ∙ e)

-- ---- the area of each face
-- cells of 0.0 hold the sums of no areas
pub sums_none : (t : Part) (l : List Float) (n : ℕ) → l ≡ replicate n vector.zero → AreasTo t 0 l
unfolding face_area_to
sums_none t l n e =
    record { each = λ f low. filled_at l n vector.zero nan e f (omega (arith, ap length e, length-replicate n vector.zero)) }

sum_suc : (t : Part) (f p : ℕ) → face_area_to t f (suc p) ≡ cond (eqb (face_number t p) f) (add binary64 (face_area_to t f p) (polygon_area t p)) (face_area_to t f p)
unfolding face_area_to
sum_suc t f p = refl

sum_here : (t : Part) (f p : ℕ) → face_number t p ≡ f → face_area_to t f (p + 1) ≡ add binary64 (face_area_to t f p) (polygon_area t p)
sum_here t f p e = rw (add-one, sum_suc t f p, eq-eqb (face_number t p) f e)

sum_other : (t : Part) (f p : ℕ) → (face_number t p ≡ f → ⊥) → face_area_to t f (p + 1) ≡ face_area_to t f p
sum_other t f p e = rw (add-one, sum_suc t f p, ne_eqb (face_number t p) f e)

pub sums_more : (t : Part) (p f : ℕ) (l : List Float) (x : Float) → f < length l → f ≡ face_number t p → x ≡ polygon_area t p → AreasTo t p l →
    AreasTo t (p + 1) (set l f (add binary64 (get_or l f nan) x))
sums_more t p f l x room e area h =
    record { each = λ g low. go g (omega (arith, low, length-set l f (add binary64 (get_or l f nan) x))) (lt_or_ge g f) (lt_or_ge f g) }
  where
    go : (g : ℕ) → g < length l → (g < f) ⊎ (f ≤ g) → (f < g) ⊎ (g ≤ f) → get_or (set l f (add binary64 (get_or l f nan) x)) g nan ≡ face_area_to t g (p + 1)
    go g low (inl below) other =
        get_or-set_other l f g _ nan (λ at. omega (arith, at, below)) ∙ h.each g low ∙ sym (sum_other t g p (λ at. omega (arith, at, e, below)))
    go g low (inr a) (inl above) =
        get_or-set_other l f g _ nan (λ at. omega (arith, at, above)) ∙ h.each g low ∙ sym (sum_other t g p (λ at. omega (arith, at, e, above)))
    go g low (inr a) (inr b) =
        let here : f ≡ g = omega (arith, a, b) in
        subst (λ (k : ℕ). get_or (set l f (add binary64 (get_or l f nan) x)) k nan ≡ face_area_to t k (p + 1)) here
        (get_or-set_same l f _ nan room ∙ ap (λ (z : Float). add binary64 z x) (h.each f room)
        ∙ ap (add binary64 (face_area_to t f p)) area ∙ sym (sum_here t f p (sym e)))

pub sums_all : (t : Part) (p P : ℕ) (l : List Float) → P ≡ t.polygons → p ≤ P → P ≤ p → AreasTo t p l → FaceAreas t l
unfolding face_area
sums_all t p P l e a b h =
    record { each = λ f low. h.each f low ∙ ap (face_area_to t f) (le_antisymm a b ∙ e) }

-- ---- the plane of each polygon
module _ (l : List Float) (p : ℕ) (x : Plane) where
  abbrev numbers : List Float
  numbers = x.normal.x ∷ x.normal.y ∷ x.normal.z ∷ x.w ∷ []

  -- the four stores are a run
  put_run : put_plane l p x ≡ stores l (4 * p) 0 numbers
  unfolding put_plane
  put_run = simp add-zero

  pub put_length : length (put_plane l p x) ≡ length l
  put_length = ap length put_run ∙ stores_length l (4 * p) 0 numbers

  put_other : (q : ℕ) → q < p → plane_at_of (put_plane l p x) q ≡ plane_at_of l q
  unfolding plane_at_of
  put_other q h =
      let o : (j : ℕ) → j < 4 * p → get_or (stores l (4 * p) 0 numbers) j nan ≡ get_or l j nan = λ j low. stores_below l (4 * p) 0 numbers nan j (omega arith) in
      rw (put_run, o (4 * q) (omega arith), o (4 * q + 1) (omega arith), o (4 * q + 2) (omega arith), o (4 * q + 3) (omega arith))

  put_same : 4 * p + 4 ≤ length l → plane_at_of (put_plane l p x) p ≡ x
  unfolding plane_at_of
  put_same h =
      let o : (n : ℕ) → n < 4 → get_or (stores l (4 * p) 0 numbers) (4 * p + n) nan ≡ get_or numbers n nan =
      λ n low. ap (λ (k : ℕ). get_or (stores l (4 * p) 0 numbers) (4 * p + k) nan) (omega arith) ∙ stores_at l (4 * p) 0 numbers nan (omega arith) n (omega arith) in
      let first : get_or (stores l (4 * p) 0 numbers) (4 * p) nan ≡ x.normal.x = ap (λ (k : ℕ). get_or (stores l (4 * p) 0 numbers) k nan) (omega arith) ∙ o 0 (lit< tt) in
      rw (put_run, first, o 1 (lit< tt), o 2 (lit< tt), o 3 (lit< tt))

pub planes_more : (t : Part) (p : ℕ) (l l' : List Float) (x : Plane) → 4 * p + 4 ≤ length l → x ≡ polygon_plane t p → l' ≡ put_plane l p x → KeptPlanes t p l →
    KeptPlanes t (p + 1) l' × (length l' ≡ length l)
planes_more t p l l' x room e put h = (
  record { each = λ q low. ap (λ (k : List Float). plane_at_of k q) put ∙ go q low (lt_or_ge q p); long = omega (arith, room, same) },
  same,
)
  where
    same : length l' ≡ length l
    same = ap length put ∙ put_length l p x

    go : (q : ℕ) → q < p + 1 → (q < p) ⊎ (p ≤ q) → plane_at_of (put_plane l p x) q ≡ polygon_plane t q
    go q low (inl below) = put_other l p x q below ∙ h.each q below
    go q low (inr above) =
        let here : p ≡ q = omega (arith, low, above) in
        subst (λ (k : ℕ). plane_at_of (put_plane l p x) k ≡ polygon_plane t k) here (put_same l p x room ∙ e)
