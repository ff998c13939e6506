-- The loops over the polygons of a face, one step each.
use mathlib.Core.Path.{◌≡◌, refl, sym, ◌∙◌, subst}
use mathlib.Core.Bool.{true, cond}
use mathlib.Core.List.{List, ◌++◌}
use Prim.Native.Nat.{ℕ, ◌+◌, ◌≤◌, ◌<◌}
use native.Mathlib.Numerals.{add-one}
use native.Mathlib.Nat.{le_antisymm}
use native.Mathlib.Omega.{arith}
use lib.Dec.{eqb}
use lib.ListN.{get_or}
use lib.Ieee.{Float, binary64, add, div, neg, of_bits}
use borrow.Author.Tests.{eq-eqb, ne_eqb}
use Rattle.math.specs.Vector as vector
use Rattle.file_part.specs.Layout.{polygon_count_of}
use Rattle.file_part.specs.Part.{Part, part_of}
use Rattle.file_part.proofs.PartLaws.{part_polygons}
use Rattle.solid_faces.specs.Faces.{is_new, face_number, polygon_corner}
use Rattle.solid_faces.specs.Kept.{Chain}
use Rattle.solid_faces.proofs.ChainLaws.{fold_first, OnFace, on_fold}
use Rattle.round_hole.specs.declared.direction.Direction.{Direction}
use Rattle.round_hole.specs.Work.{directions_in}
use Rattle.round_frame.specs.declared.frame.Frame.{Frame}
use Rattle.round_frame.specs.declared.extent.Extent.{Extent}
use Rattle.round_frame.specs.Frame.{nowhere, run_extent, run_directions}
use Rattle.round_frame.specs.Polygons.{extent_with, extent_to, polygon_vote, votes_with, votes_to, directions_with, directions_to}

-- after the last polygon
pub to_all : {X : Type 0} (s : List ℕ) (to : ℕ → X) (q p : ℕ) (e : X) → p ≡ polygon_count_of s → q ≤ (part_of s).polygons → p ≤ q → e ≡ to q → e ≡ to (part_of s).polygons
to_all s to q p e same l g h = subst (λ (j : ℕ). e ≡ to j) (le_antisymm l (omega (arith, g, same, part_polygons s))) h

-- ---- a polygon that is not of face f changes nothing
module _ (t : Part) (f : ℕ) (a : Frame) (q : ℕ) (other : face_number t q ≡ f → ⊥) where
  extents_still : extent_to t f a (q + 1) ≡ extent_to t f a q
  unfolding extent_to extent_with
  extents_still = rw (add-one, ne_eqb (face_number t q) f other)

  votes_still : votes_to t f a (q + 1) ≡ votes_to t f a q
  unfolding votes_to votes_with
  votes_still = rw (add-one, ne_eqb (face_number t q) f other)

  directions_still : directions_to t f a (q + 1) ≡ directions_to t f a q
  unfolding directions_to directions_with
  directions_still = rw (add-one, ne_eqb (face_number t q) f other)

-- ---- the first polygon of a face
module _ (t : Part) (a : Frame) (first : ℕ) (new : is_new t first ≡ true) where
  pub extents_none : record { lo = div binary64 vector.one vector.zero; hi = div binary64 (neg vector.one) vector.zero } ≡ extent_to t (face_number t first) a first
  unfolding extent_to nowhere of_bits div neg
  extents_none = sym (fold_first t (face_number t first) (extent_to t (face_number t first) a) (extents_still t (face_number t first) a) first new refl)

  pub votes_none : vector.zero ≡ votes_to t (face_number t first) a first
  unfolding votes_to
  votes_none = sym (fold_first t (face_number t first) (votes_to t (face_number t first) a) (votes_still t (face_number t first) a) first new refl)

  pub directions_none : (cells : List Float) → directions_in 0 cells ≡ directions_to t (face_number t first) a first
  unfolding directions_in directions_to
  directions_none cells = sym (fold_first t (face_number t first) (directions_to t (face_number t first) a) (directions_still t (face_number t first) a) first new refl)

-- ---- from a polygon of face f to the next
module _ (t : Part) (f q : ℕ) (l : List ℕ) (chain : Chain t l) (on : OnFace t f q) (low : q < t.polygons) (a : Frame) where
  this_face : {X : Type 0} (x e : X) → x ≡ cond (eqb (face_number t q) f) x e
  this_face x e = rw (eq-eqb (face_number t q) f (on.face low))

  pub extents_next : (e r : Extent) → e ≡ extent_to t f a q → r ≡ run_extent a (polygon_corner t q) e (t.polygon q).count → r ≡ extent_to t f a (get_or l q 0)
  unfolding extent_to extent_with
  extents_next e r i j =
      let more : r ≡ extent_to t f a (q + 1) = j ∙ rw (add-one, i) (this_face _ _) in
      more ∙ sym (on_fold t f q l chain on low (extent_to t f a) (extents_still t f a))

  pub votes_next : (e r : Float) → e ≡ votes_to t f a q → r ≡ polygon_vote t a q → add binary64 e r ≡ votes_to t f a (get_or l q 0)
  unfolding votes_to votes_with
  votes_next e r i j =
      let more : add binary64 e r ≡ votes_to t f a (q + 1) = rw (add-one, j, i) (this_face _ _) in
      more ∙ sym (on_fold t f q l chain on low (votes_to t f a) (votes_still t f a))

  pub directions_next : (e r : List Direction) → e ≡ directions_to t f a q → r ≡ e ++ run_directions a (polygon_corner t q) (t.polygon q).count →
      r ≡ directions_to t f a (get_or l q 0)
  unfolding directions_to directions_with
  directions_next e r i j =
      let more : r ≡ directions_to t f a (q + 1) = j ∙ rw (add-one, i) (this_face _ _) in
      more ∙ sym (on_fold t f q l chain on low (directions_to t f a) (directions_still t f a))
