-- The next polygon of a face: what is folded over the polygons of one face goes from its first to the next and the next.
use mathlib.Core.Path.{◌≡◌, refl, sym, ap, ◌∙◌, subst}
use mathlib.Core.Bool.{Bool, true, ◌&&◌}
use mathlib.Core.List.{List}
use mathlib.Core.Logic.{◌⊎◌, inl, inr}
use Prim.Native.Nat.{ℕ, zero, suc, ◌+◌, ◌-◌, ◌≤◌, ◌<◌}
use native.Mathlib.Nat.{add-zero, zero-add}
use native.Mathlib.Omega.{arith}
use lib.Dec.{eqb, leb}
use lib.ListN.{get_or}
use borrow.Author.Tests.{eqb-true, eq-eqb, leb-true, le-leb}
use Rattle.num_float.proofs.Tests.{refuted, contrary, and_true, and_left, and_right, lt_or_ge}
use Rattle.list_laws.proofs.Count.{lowest_le, lowest_passes, lowest_least, lowest_is}
use Rattle.solid_polygon.specs.file_part.specs.Part.{Part}
use Rattle.solid_faces.specs.Faces.{is_new, face_number, next_of, next_polygon}
use Rattle.solid_faces.specs.Kept.{Chain}
use Rattle.solid_faces.proofs.FaceLaws.{same_is, new_is, first_least, same_number}

module _ (t : Part) (f : ℕ) where
  abbrev from : ℕ → ℕ → Bool
  from q r = leb q r && eqb (face_number t r) f

  -- ---- the lowest polygon from q on
  pub next_le : (q : ℕ) → next_of t f q ≤ t.polygons
  unfolding next_of
  next_le q = lowest_le t.polygons (from q)

  next_passes : (q : ℕ) → next_of t f q < t.polygons → (q ≤ next_of t f q) × (face_number t (next_of t f q) ≡ f)
  unfolding next_of
  next_passes q l =
      let both = lowest_passes t.polygons (from q) l in
      let r = next_of t f q in
      (leb-true q r (and_left (leb q r) (eqb (face_number t r) f) both), eqb-true _ _ (and_right (leb q r) (eqb (face_number t r) f) both))

  pub next_ge : (q : ℕ) → q ≤ t.polygons → q ≤ next_of t f q
  next_ge q l = go (lt_or_ge (next_of t f q) t.polygons)
    where
      go : (next_of t f q < t.polygons) ⊎ (t.polygons ≤ next_of t f q) → q ≤ next_of t f q
      go (inl below) = (next_passes q below).0
      go (inr above) = omega (arith, l, above)

  pub next_face : (q : ℕ) → next_of t f q < t.polygons → face_number t (next_of t f q) ≡ f
  next_face q l = (next_passes q l).1

  -- between them none is of the face
  next_skips : (q r : ℕ) → q ≤ r → r < next_of t f q → face_number t r ≡ f → ⊥
  unfolding next_of
  next_skips q r low high e =
      contrary (and_true (leb q r) (eqb (face_number t r) f) (le-leb q r low) (eq-eqb _ _ e)) (lowest_least t.polygons (from q) r high)

  -- q itself, where it is of the face
  pub next_here : (q : ℕ) → q < t.polygons → face_number t q ≡ f → next_of t f q ≡ q
  unfolding next_of
  next_here q l e =
      lowest_is t.polygons (from q) q (omega (arith, l)) (λ below. and_true _ _ (le-leb q q (omega arith)) (eq-eqb _ _ e))
      (λ i low. refuted _ (λ both. omega (arith, low, leb-true q i (and_left (leb q i) (eqb (face_number t i) f) both))))

  -- else the lowest after it
  pub next_other : (q : ℕ) → (face_number t q ≡ f → ⊥) → q < t.polygons → next_of t f q ≡ next_of t f (q + 1)
  unfolding next_of
  next_other q other l =
      lowest_is t.polygons (from q) (next_of t f (q + 1)) (next_le (q + 1)) (λ below. and_true _ _ (le-leb q _ (omega (arith, above))) (eq-eqb _ _ (next_face (q + 1) below)))
      (λ i low. refuted _ (λ both. earlier i low (leb-true q i (and_left (leb q i) (eqb (face_number t i) f) both)) (eqb-true _ _ (and_right (leb q i) (eqb (face_number t i) f) both))))
    where
      above : q + 1 ≤ next_of t f (q + 1)
      above = next_ge (q + 1) (omega (arith, l))

      earlier : (i : ℕ) → i < next_of t f (q + 1) → q ≤ i → face_number t i ≡ f → ⊥
      earlier i low high e = go (lt_or_ge q i)
        where
          go : (q < i) ⊎ (i ≤ q) → ⊥
          go (inl after) = next_skips (q + 1) i (omega (arith, after)) low e
          go (inr here) = let same : i ≡ q = omega (arith, high, here) in other (ap (face_number t) (sym same) ∙ e)

  pub next_end : next_of t f t.polygons ≡ t.polygons
  next_end = omega (arith, next_le t.polygons, next_ge t.polygons (omega arith))

  -- ---- what changes only at polygons of face f
  module _ {X : Type 0} (g : ℕ → X) (still : (q : ℕ) → (face_number t q ≡ f → ⊥) → g (q + 1) ≡ g q) where
    steps : (a d : ℕ) → ((r : ℕ) → a ≤ r → r < a + d → face_number t r ≡ f → ⊥) → g (a + d) ≡ g a
    steps a zero none = ap g (add-zero a)
    steps a (suc d) none =
        let next : a + suc d ≡ (a + d) + 1 = omega arith in
        ap g next ∙ still (a + d) (none (a + d) (omega arith) (omega arith))
        ∙ steps a d (λ r low high. none r low (omega (arith, high)))

    pub fold_next : (q : ℕ) → q ≤ t.polygons → g (next_of t f q) ≡ g q
    fold_next q l =
        let long : next_of t f q ≡ q + (next_of t f q - q) = omega (arith, next_ge q l) in
        ap g long ∙ steps q (next_of t f q - q) (λ r low high. next_skips q r low (omega (arith, high, long)))

    -- from the first polygon of the face
    pub fold_first : (q : ℕ) → is_new t q ≡ true → face_number t q ≡ f → g q ≡ g 0
    fold_first q new e =
        ap g (sym (zero-add q)) ∙ steps 0 q (λ r low high same. omega (arith, high, new_is t q new, first_least t q r (same_is _ _ (same_number t q r (same ∙ sym e)))))

pub next_rises : (t : Part) (q : ℕ) → q < t.polygons → q < next_polygon t q
unfolding next_polygon
next_rises t q l = omega (arith, next_ge t (face_number t q) (q + 1) (omega (arith, l)))

-- ---- a loop over the polygons of face f, from its first one on
pub record OnFace (t : Part) (f q : ℕ) : Type 0 where
  pub low : q ≤ t.polygons
  pub face : q < t.polygons → face_number t q ≡ f

pub on_first : (t : Part) (q : ℕ) → q < t.polygons → OnFace t (face_number t q) q
on_first t q l = record { low = omega (arith, l); face = λ below. refl }

module _ (t : Part) (f q : ℕ) (l : List ℕ) (chain : Chain t l) (on : OnFace t f q) (low : q < t.polygons) where
  link_is : get_or l q 0 ≡ next_of t f (q + 1)
  unfolding next_polygon
  link_is = chain.each q low ∙ ap (λ (g : ℕ). next_of t g (q + 1)) (on.face low)

  pub on_next : OnFace t f (get_or l q 0)
  on_next = subst (OnFace t f) (sym link_is) (record { low = next_le t f (q + 1); face = λ below. next_face t f (q + 1) below })

  pub on_rises : q < get_or l q 0
  on_rises = omega (arith, link_is, next_ge t f (q + 1) (omega (arith, low)))

  pub on_fold : {X : Type 0} (g : ℕ → X) → ((r : ℕ) → (face_number t r ≡ f → ⊥) → g (r + 1) ≡ g r) → g (get_or l q 0) ≡ g (q + 1)
  on_fold g still = ap g link_is ∙ fold_next t f g still (q + 1) (omega (arith, low))
