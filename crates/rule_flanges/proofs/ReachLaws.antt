-- How far a face reaches from a line: the steps from corner to corner and from polygon to polygon.
use mathlib.Core.Path.{◌≡◌, refl, sym, ◌∙◌, subst}
use mathlib.Core.Bool.{true, cond}
use mathlib.Core.List.{List}
use Prim.Native.Nat.{ℕ, ◌+◌, ◌*◌, ◌≤◌, ◌<◌}
use native.Mathlib.Numerals.{add-one}
use native.Mathlib.Nat.{le_antisymm}
use lib.Dec.{eqb}
use lib.ListN.{get_or}
use lib.Ieee.{Float}
use borrow.Author.Tests.{eq-eqb, ne_eqb}
use Rattle.num_real.specs.Select.{max_of}
use Rattle.math.specs.declared.Vec3.{Vec3}
use Rattle.math.specs.Vector.{minus, times, dot_of, length_of}
use Rattle.math.specs.Vector as vector
use Rattle.file_field.specs.Field.{vec_at_of}
use Rattle.file_part.specs.Layout.{vertex_count_of, entry_at}
use Rattle.file_part.specs.Part.{Part, first_at, count_at_of, polygon_at, part_of}
use Rattle.solid_polygon.specs.Work.{corner_at}
use Rattle.solid_faces.specs.Faces.{is_new, face_number, polygon_corner}
use Rattle.solid_faces.specs.Kept.{Chain}
use Rattle.solid_faces.proofs.ChainLaws.{fold_first, OnFace, on_fold}
use Rattle.rule_flanges.specs.Flanges.{away_from, run_reach, reach_with, reach_to}

pub away_is : (along base p d m w : Vec3) (e r : Float) → d ≡ minus p base → e ≡ dot_of d along → m ≡ times along e → w ≡ minus d m → r ≡ length_of w →
    r ≡ away_from along (minus p base)
unfolding away_from
away_is along base p d m w e r ed ee em ew er = er ∙ rw (ew, em, ee, ed)

-- ---- the corners of a polygon
module _ (s : List ℕ) (first : ℕ) (along base : Vec3) (x : Float) where
  pub reach_none : x ≡ run_reach along base (corner_at s first) x 0
  unfolding run_reach
  reach_none = refl

  pub reach_more : (k : ℕ) (y a r : Float) (v : Vec3) → y ≡ run_reach along base (corner_at s first) x k → v ≡ vec_at_of s (24 * (first + k)) → a ≡ away_from along (minus v base) →
      r ≡ max_of y a → r ≡ run_reach along base (corner_at s first) x (k + 1)
  unfolding run_reach corner_at
  reach_more k y a r v ey ev ea er = er ∙ rw (ea, ev, ey, add-one)

  pub reach_all : (n k : ℕ) (y : Float) → k ≤ n → n ≤ k → y ≡ run_reach along base (corner_at s first) x k → y ≡ run_reach along base (corner_at s first) x n
  reach_all n k y l m h = subst (λ (j : ℕ). y ≡ run_reach along base (corner_at s first) x j) (le_antisymm l m) h

-- a run of the file as polygon q of the part
pub run_reach_lem : (s : List ℕ) (v q at first n : ℕ) → v ≡ vertex_count_of s → at ≡ entry_at v q → first ≡ first_at s at → n ≡ count_at_of s at → (along base : Vec3) (x r : Float) →
    r ≡ run_reach along base (corner_at s first) x n → r ≡ run_reach along base (polygon_corner (part_of s) q) x ((part_of s).polygon q).count
unfolding polygon_corner part_of polygon_at corner_at
run_reach_lem s v q at first n ev place ef en along base x r h = h ∙ rw (ef, en, place, ev)

-- ---- the polygons of a face: one that is not of face f changes nothing
module _ (t : Part) (f : ℕ) (along base : Vec3) where
  reaches_still : (q : ℕ) → (face_number t q ≡ f → ⊥) → reach_to t f along base (q + 1) ≡ reach_to t f along base q
  unfolding reach_to reach_with
  reaches_still q other = rw (add-one, ne_eqb (face_number t q) f other)

  -- from a polygon of the face to the next
  pub reaches_next : (q : ℕ) (l : List ℕ) → Chain t l → OnFace t f q → q < t.polygons → (e r : Float) → e ≡ reach_to t f along base q →
      r ≡ run_reach along base (polygon_corner t q) e (t.polygon q).count → r ≡ reach_to t f along base (get_or l q 0)
  unfolding reach_to reach_with
  reaches_next q l chain on low e r i j =
      let this : (x y : Float) → x ≡ cond (eqb (face_number t q) f) x y = λ x y. rw (eq-eqb (face_number t q) f (on.face low)) in
      let more : r ≡ reach_to t f along base (q + 1) = j ∙ rw (add-one, i) (this _ _) in
      more ∙ sym (on_fold t f q l chain on low (reach_to t f along base) reaches_still)

-- before the first polygon of a face
pub reaches_none : (t : Part) (along base : Vec3) (first : ℕ) → is_new t first ≡ true → vector.zero ≡ reach_to t (face_number t first) along base first
unfolding reach_to
reaches_none t along base first new =
    sym (fold_first t (face_number t first) (reach_to t (face_number t first) along base) (reaches_still t (face_number t first) along base) first new refl)
