-- The regions of the scratch while the rounds are put there, face by face.
use mathlib.Core.Path.{◌≡◌, refl, sym, ap, ◌∙◌, subst}
use mathlib.Core.Bool.{Bool, true, false, not, ◌&&◌, cond}
use mathlib.Core.List.{List}
use Prim.Native.Nat.{ℕ, ◌+◌, ◌*◌, ◌-◌, ◌≤◌, ◌<◌}
use native.Mathlib.Omega.{arith}
use lib.ListN.{length, get_or, set}
use lib.Ieee.{Float, lt, nan}
use borrow.Author.Tests.{not-true, not-false}
use borrow.Rule.Slice.PartMut.{put_mid}
use Rattle.list_laws.specs.Region.{part, Outside}
use Rattle.list_laws.proofs.Regions.{part_length, part_put, part_before, part_set}
use Rattle.list_laws.proofs.Outside.{outside_none, outside_then, outside_wide, outside_set, outside_put}
use Rattle.math.specs.Vector as vector
use Rattle.file_part.specs.declared.read.SurfaceKind.{SurfaceKind}
use Rattle.file_part.specs.Layout.{vertex_count_of, polygon_count_of, entry_at}
use Rattle.file_part.specs.Part.{Part, part_of, surface_at}
use Rattle.file_part.proofs.PartLaws.{part_polygons, part_surface}
use Rattle.solid_faces.specs.Faces.{faces_of, first_polygon}
use Rattle.solid_faces.specs.Kept.{KeptPlanes, KeptAreas}
use Rattle.solid_faces.proofs.BodyLaws.{checked_readable, checked_faces, EntryRoom, entry_room}
use Rattle.solid_faces.proofs.FaceLaws.{Begins, first_polygon_begins}
use Rattle.solid_faces.proofs.CountLaws.{few_faces}
use Rattle.scratch.specs.declared.regions.Regions.{Regions}
use Rattle.scratch.specs.Regions.{Laid}
use Rattle.scratch.specs.Standing.{Placed, Standing}
use Rattle.scratch.proofs.StandingLaws.{placed_polygons, standing_kept}
use Rattle.scratch.proofs.WordsLaws.{begins_at}
use Rattle.round_hole.specs.Direction.{goes_round_of}
use Rattle.round_frame.specs.declared.frame.Frame.{Frame}
use Rattle.round_frame.specs.Frame.{measure_of}
use Rattle.round_frame.specs.Polygons.{extent_to, votes_to, directions_to}
use Rattle.round_frame.specs.Work.{put_measure_of}
use Rattle.round_all.specs.Round.{face_surface, is_round, face_frame, face_measure, is_concave, directions_of, is_hole}
use Rattle.round_all.specs.Kept.{round_kind, KeptKinds}
use Rattle.std.specs.Prelude.{Option, Some, None}
use Rattle.round_all.specs.declared.round.RoundKind.{RoundKind}
use Rattle.round_all.specs.declared.round.RoundKind.TheVariants.{Convex, Concave, Hole}
use Rattle.round_all.specs.Work.{CylinderPut, kind_number, FacePut, StepPut}
use Rattle.round_all.proofs.KeptLaws.{kinds_more, measures_more, measures_skip}

-- ---- the surface of a face, and its entry in the file
pub surface_is : (s : List ℕ) (v q f at : ℕ) (x : SurfaceKind) → v ≡ vertex_count_of s → q ≡ first_polygon (part_of s) f → at ≡ entry_at v q → x ≡ surface_at s at →
    x ≡ face_surface (part_of s) f
unfolding face_surface
surface_is s v q f at x ev eq ea ex = ex ∙ rw (ea, ev, eq, part_surface s (first_polygon (part_of s) f))

pub first_entry : (s : List ℕ) (at : Regions) (q f : ℕ) → Placed s at → q ≡ first_polygon (part_of s) f → f < faces_of (part_of s) → EntryRoom s at.vertices q
first_entry s at q f h eq l =
    let low : q < polygon_count_of s = omega (arith, eq, (first_polygon_begins (part_of s) f l).below, part_polygons s) in
    entry_room s at.vertices (polygon_count_of s) q (checked_readable s h.checked) h.vertices refl low

-- a face's number is below P and below 1,024
pub face_low : (s : List ℕ) (at : Regions) (f : ℕ) → Placed s at → f < faces_of (part_of s) → (f < at.polygons) × (f < 1024)
face_low s at f h l = (omega (arith, l, few_faces (part_of s), placed_polygons s at h), omega (arith, l, checked_faces s h.checked))

-- ---- what the measures of a face are made from
module _ (s : List ℕ) (at : Regions) (words : List ℕ) (reals : List Float) (h : Standing s at words reals) where
  past : (reals' : List Float) → Outside nan at.rounds at.free reals reals' → Outside nan at.falling at.free reals reals'
  past reals' o = outside_wide nan _ _ at.falling at.free reals reals' (omega (arith, h.placed.laid)) (omega arith) o

  -- after rounds are put the body still stands
  pub still : (words' : List ℕ) (reals' : List Float) → Outside 0 at.kinds at.ranks words words' → Outside nan at.rounds at.free reals reals' → Standing s at words' reals'
  still words' reals' w o =
      standing_kept s at at.ranks at.free words words' reals reals' h
      (outside_wide 0 _ _ at.readings at.ranks words words' (omega (arith, h.placed.laid)) (omega arith) w) (past reals' o)

  -- the polygon that begins face f, where q is read
  pub first_begins : (f q : ℕ) → f < faces_of (part_of s) → q ≡ get_or words (at.firsts + f) 0 → Begins (part_of s) (part_of s).polygons f q
  first_begins f q l e =
      begins_at (part_of s) at words f q h.placed.laid h.the_words (placed_polygons s at h.placed) l (checked_faces s h.placed.checked) e

  pub planes_lent : (reals' : List Float) → Outside nan at.rounds at.free reals reals' → KeptPlanes (part_of s) (part_of s).polygons (part 0 at.areas reals')
  planes_lent reals' o =
      subst (λ (k : ℕ). KeptPlanes (part_of s) k (part 0 at.areas reals')) (placed_polygons s at h.placed)
      (still words reals' (outside_none 0 _ _ words) o).the_reals.planes

  pub areas_lent : (reals' : List Float) → Outside nan at.rounds at.free reals reals' → KeptAreas (part_of s) (part_of s).polygons (part at.areas at.totals reals')
  areas_lent reals' o =
      subst (λ (k : ℕ). KeptAreas (part_of s) k (part at.areas at.totals reals')) (placed_polygons s at h.placed)
      (still words reals' (outside_none 0 _ _ words) o).the_reals.areas

-- ---- a cylinder: its numbers x put
module _ (t : Part) (at : Regions) (laid : Laid at) (f : ℕ) (a : Frame) (s x : List Float) (room : at.reals ≤ length s) (lx : length x ≡ at.directions - at.rounds)
    (is : x ≡ put_measure_of (part at.rounds at.directions s) f (measure_of a (extent_to t f a t.polygons))) where
  abbrev pub measured : List Float
  measured = put_mid at.rounds (at.directions - at.rounds) s x

  pub measured_kept : Outside nan at.rounds at.free s measured
  measured_kept =
      outside_wide nan _ _ at.rounds at.free s measured (omega arith) (omega (arith, laid))
      (outside_put nan at.rounds at.directions s x (omega (arith, laid)) (omega (arith, room, laid)) lx)

  measured_is : part at.rounds at.directions measured ≡ put_measure_of (part at.rounds at.directions s) f (measure_of a (extent_to t f a t.polygons))
  measured_is = part_put at.rounds at.directions s x (omega (arith, room, laid)) lx ∙ is

  module _ (b : Bool) (votes : b ≡ lt (votes_to t f a t.polygons) vector.zero) where
    pub put_convex : not b ≡ true → CylinderPut t at f a s measured Convex
    put_convex h =
        record {
          kind = sym (ap (λ (c : Bool). cond c (cond (goes_round_of (directions_to t f a t.polygons)) Hole Concave) Convex) (sym votes ∙ not-true b h));
          measures = measured_is;
          kept = measured_kept;
        }

    -- then the directions y, in the cells after them
    module _ (y : List Float) (ly : length y ≡ at.free - at.directions) where
      abbrev walked : List Float
      walked = put_mid at.directions (at.free - at.directions) measured y

      walked_kept : Outside nan at.rounds at.free measured walked
      walked_kept =
          outside_wide nan _ _ at.rounds at.free measured walked (omega (arith, laid)) (omega arith)
          (outside_put nan at.directions at.free measured y (omega (arith, laid)) (omega (arith, room, laid, measured_kept.long)) ly)

      pub put_concave : not b ≡ false → (g r : Bool) → g ≡ goes_round_of (directions_to t f a t.polygons) → g ≡ r → CylinderPut t at f a s walked (cond r Hole Concave)
      put_concave h g r eg eq =
          record {
            kind =
                sym (ap (λ (c : Bool). cond c (cond (goes_round_of (directions_to t f a t.polygons)) Hole Concave) Convex) (sym votes ∙ not-false b h)
                ∙ ap (λ (c : Bool). cond c Hole Concave) (sym eg ∙ eq));
            measures =
                part_before at.directions (at.free - at.directions) at.rounds at.directions measured y (omega (arith, room, laid, measured_kept.long)) (omega (arith, laid)) (omega arith)
                ∙ measured_is;
            kept = outside_then nan _ _ s measured walked measured_kept walked_kept;
          }

-- ---- a face
same_kind : (b g : Bool) → kind_number (Some (cond b (cond g Hole Concave) Convex)) ≡ cond b (cond (b && g) 3 2) 1
same_kind true true = refl
same_kind true false = refl
same_kind false g = refl

-- its numbers have their place
pub numbers_room : (at : Regions) (f : ℕ) (s : List Float) → Laid at → f < at.polygons → at.reals ≤ length s → 7 * f + 7 ≤ length (part at.rounds at.directions s)
numbers_room at f s laid low room = omega (arith, laid, low, part_length at.rounds at.directions s (omega (arith, laid, room)))

pub face_cylinder : (t : Part) (at : Regions) (f : ℕ) (a : Frame) (s s' : List Float) (r : RoundKind) → Laid at → f < at.polygons → at.reals ≤ length s → a ≡ face_frame t f →
    is_round t f ≡ true → CylinderPut t at f a s s' r → FacePut t at f s s' (Some r)
unfolding round_kind is_hole is_concave directions_of face_measure
face_cylinder t at f a s s' r laid low room ea round h =
    let same = subst (λ (x : Frame). CylinderPut t at f x s s' r) ea h in
    record {
      kind =
          ap (λ (k : RoundKind). kind_number (Some k)) same.kind
          ∙ same_kind (lt (votes_to t f (face_frame t f) t.polygons) vector.zero) (goes_round_of (directions_to t f (face_frame t f) t.polygons))
          ∙ rw (round);
      measures = λ kept. measures_more t f (part at.rounds at.directions s) _ _ (numbers_room at f s laid low room) refl same.measures kept;
      kept = same.kept;
    }

pub face_none : (t : Part) (at : Regions) (f : ℕ) (s : List Float) → Laid at → f < at.polygons → at.reals ≤ length s → is_round t f ≡ false → FacePut t at f s s None
unfolding round_kind
face_none t at f s laid low room flat = record {
  kind = rw (flat);
  measures = λ kept. measures_skip t f _ (numbers_room at f s laid low room) flat kept;
  kept = outside_none nan _ _ s;
}

-- its kind put too
pub step_put : (t : Part) (at : Regions) (f kind : ℕ) (words : List ℕ) (s s' : List Float) (r : Option RoundKind) → kind ≡ kind_number r → Laid at → at.words ≤ length words → f < at.polygons → FacePut t at f s s' r →
    StepPut t at f words (set words (at.kinds + f) kind) s s'
step_put t at f kind words s s' r e laid room low h =
    let long = part_length at.kinds at.ranks words (omega (arith, room, laid)) in
    record {
      kinds = λ kept.
          subst (KeptKinds t (f + 1)) (sym (part_set at.kinds at.ranks words f kind (omega (arith, low, laid)) (omega (arith, room, laid))))
          (kinds_more t f (part at.kinds at.ranks words) kind (omega (arith, long, low, laid)) (e ∙ h.kind) kept);
      measures = h.measures;
      words_kept = outside_set 0 at.kinds at.ranks words (at.kinds + f) kind (omega arith) (omega (arith, low, laid));
      reals_kept = h.kept;
    }
