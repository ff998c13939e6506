-- `round_all::round::put_cylinder` meets its contract.
use mathlib.Core.Path.{◌≡◌, ap, ◌∙◌, refl}
use mathlib.Core.Bool.{Bool, true, false, not, cond}
use mathlib.Core.List.{List}
use Prim.Native.Nat.{ℕ, ◌-◌, ◌+◌, ◌<◌}
use lib.ListN.{length, get_or}
use lib.Ieee.{Float, lt, nan}
use borrow.Rule.Slice.PartMut.{put_mid}
use Rattle.list_laws.specs.Region.{part, Outside}
use Rattle.list_laws.proofs.Regions.{part_length}
use Rattle.file_part.specs.Part.{part_of}
use Rattle.math.specs.Vector as vector
use Rattle.solid_faces.specs.Faces.{faces_of, face_number}
use Rattle.solid_faces.proofs.BodyLaws.{checked_readable}
use Rattle.solid_faces.proofs.FaceLaws.{Begins}
use Rattle.scratch.specs.declared.regions.Regions.{Regions}
use Rattle.scratch.specs.Standing.{Standing}
use Rattle.round_hole.specs.Direction.{goes_round_of}
use Rattle.round_frame.specs.declared.frame.Frame.{Frame}
use Rattle.round_frame.specs.Frame.{measure_of}
use Rattle.round_frame.specs.Polygons.{extent_to, votes_to, directions_to}
use Rattle.round_frame.specs.Work.{put_measure_of}
use Rattle.round_all.specs.declared.round.RoundKind.TheVariants.{Convex, Concave, Hole}
use Rattle.round_all.specs.Work.{CylinderPut}
use Rattle.round_all.proofs.PutLaws.{face_low, first_begins, planes_lent, areas_lent, numbers_room, measured_kept, put_convex, put_concave}
use native.Mathlib.Omega.{arith}
use Rattle.round_all.proofs.round.put_cylinder.Goals as goal

-- ---- what the calls leave: the measures x first
module _ (s : List ℕ) (at : Regions) (words : List ℕ) (reals : List Float) (h : Standing s at words reals) (f : ℕ) (l : f < faces_of (part_of s)) (a : Frame) (x : List Float)
    (lx : length x ≡ length (part at.rounds at.directions reals))
    (is : x ≡ put_measure_of (part at.rounds at.directions reals) f (measure_of a (extent_to (part_of s) f a (part_of s).polygons))) where
  abbrev measured : List Float
  measured = put_mid at.rounds (at.directions - at.rounds) reals x

  x_long : length x ≡ at.directions - at.rounds
  x_long = lx ∙ part_length at.rounds at.directions reals (omega (arith, h.placed.laid, h.reals_room))

  kept : Outside nan at.rounds at.free reals measured
  kept = measured_kept (part_of s) at h.placed.laid f a reals x h.reals_room x_long is

  lent_long : length (part at.directions at.free measured) ≡ at.free - at.directions
  lent_long = part_length at.directions at.free measured (omega (arith, h.placed.laid, h.reals_room, kept.long))

  -- the votes of the face that begins with polygon q
  module _ (q : ℕ) (eq : q ≡ get_or words (at.firsts + f) 0) (b : Bool) (eb : b ≡ lt (votes_to (part_of s) (face_number (part_of s) q) a (part_of s).polygons) vector.zero) where
    begins : Begins (part_of s) (part_of s).polygons f q
    begins = first_begins s at words reals h f q l eq

    votes : b ≡ lt (votes_to (part_of s) f a (part_of s).polygons) vector.zero
    votes = eb ∙ ap (λ (g : ℕ). lt (votes_to (part_of s) g a (part_of s).polygons) vector.zero) begins.number

    convex : b ≡ false → CylinderPut (part_of s) at f a reals measured Convex
    convex e = put_convex (part_of s) at h.placed.laid f a reals x h.reals_room x_long is b votes (ap not e)

    -- then the directions y
    concave : b ≡ true → (y : List Float) → length y ≡ length (part at.directions at.free measured) → (g r : Bool) →
        g ≡ goes_round_of (directions_to (part_of s) (face_number (part_of s) q) a (part_of s).polygons) → g ≡ r →
        CylinderPut (part_of s) at f a reals (put_mid at.directions (at.free - at.directions) measured y) (cond r Hole Concave)
    concave e y ly g r eg er =
        put_concave (part_of s) at h.placed.laid f a reals x h.reals_room x_long is b votes y (ly ∙ lent_long) (ap not e) g r
        (eg ∙ ap (λ (k : ℕ). goes_round_of (directions_to (part_of s) k a (part_of s).polygons)) begins.number) er

pub overflow_add-first : goal.overflow_add-first
overflow_add-first c = omega (arith, c.requires.fact_1.placed.laid, face_low _ _ _ c.requires.fact_1.placed c.requires.fact_2)

pub offset_bounds-words-at : goal.offset_bounds-words-at
offset_bounds-words-at c = omega (arith, c.requires.fact_1.placed.laid, face_low _ _ _ c.requires.fact_1.placed c.requires.fact_2)

pub bounds-words-at : goal.bounds-words-at
bounds-words-at c = omega (arith, c.requires.fact_1.placed.laid, face_low _ _ _ c.requires.fact_1.placed c.requires.fact_2, c.requires.fact_1.words_room)

pub put_extent-requires : goal.put_extent-requires
put_extent-requires c =
    let begins = first_begins _ c.args.at _ _ c.requires.fact_1 c.args.f (get_or c.args.words.now (c.args.at.firsts + c.args.f) 0) c.requires.fact_2 refl in
    record {
      readable_1 = checked_readable _ c.requires.fact_1.placed.checked;
      readable_2 = c.requires.fact_1.the_words.chain;
      readable_3 = numbers_room c.args.at c.args.f c.args.reals.now c.requires.fact_1.placed.laid (face_low _ _ _ c.requires.fact_1.placed c.requires.fact_2).0 c.requires.fact_1.reals_room;
      first_bound_1 = begins.below;
      first_bound_2 = begins.new;
      first_bound_3 = begins.number;
    }

pub slice_bounds-is_concave-start : goal.slice_bounds-is_concave-start
slice_bounds-is_concave-start c = omega (arith, c.requires.fact_1.placed.laid, c.requires.fact_1.reals_room, (kept _ c.args.at _ _ c.requires.fact_1 c.args.f c.requires.fact_2 c.args.frame _ c.put_extent.auto.out c.put_extent.ensures).long)

pub slice_bounds-is_concave-end : goal.slice_bounds-is_concave-end
slice_bounds-is_concave-end c = omega (arith, c.requires.fact_1.placed.laid, c.requires.fact_1.reals_room, (kept _ c.args.at _ _ c.requires.fact_1 c.args.f c.requires.fact_2 c.args.frame _ c.put_extent.auto.out c.put_extent.ensures).long)

pub slice_bounds-is_concave-start-2 : goal.slice_bounds-is_concave-start-2
slice_bounds-is_concave-start-2 c = omega (arith, c.requires.fact_1.placed.laid, c.requires.fact_1.reals_room, (kept _ c.args.at _ _ c.requires.fact_1 c.args.f c.requires.fact_2 c.args.frame _ c.put_extent.auto.out c.put_extent.ensures).long)

pub slice_bounds-is_concave-end-2 : goal.slice_bounds-is_concave-end-2
slice_bounds-is_concave-end-2 c = omega (arith, c.requires.fact_1.placed.laid, c.requires.fact_1.reals_room, (kept _ c.args.at _ _ c.requires.fact_1 c.args.f c.requires.fact_2 c.args.frame _ c.put_extent.auto.out c.put_extent.ensures).long)

pub is_concave-requires : goal.is_concave-requires
is_concave-requires c =
    let begins = first_begins _ c.args.at _ _ c.requires.fact_1 c.args.f (get_or c.args.words.now (c.args.at.firsts + c.args.f) 0) c.requires.fact_2 refl in
    let kept = kept _ c.args.at _ _ c.requires.fact_1 c.args.f c.requires.fact_2 c.args.frame _ c.put_extent.auto.out c.put_extent.ensures in
    record {
      readable_1 = checked_readable _ c.requires.fact_1.placed.checked;
      readable_2 = c.requires.fact_1.the_words.chain;
      first_bound_1 = begins.below;
      first_bound_2 = begins.new;
      kept_planes_1 = planes_lent _ _ _ _ c.requires.fact_1 _ kept;
      kept_planes_2 = areas_lent _ _ _ _ c.requires.fact_1 _ kept;
    }

pub shape_of-reals-then-not-is_concave : goal.shape_of-reals-then-not-is_concave
shape_of-reals-then-not-is_concave c = (kept _ c.args.at _ _ c.requires.fact_1 c.args.f c.requires.fact_2 c.args.frame _ c.put_extent.auto.out c.put_extent.ensures).long

pub returns-then-not-is_concave : goal.returns-then-not-is_concave
returns-then-not-is_concave c =
    convex _ c.args.at _ _ c.requires.fact_1 c.args.f c.requires.fact_2 c.args.frame _ c.put_extent.auto.out c.put_extent.ensures _ refl _ c.is_concave.ensures c.if-not-is_concave.true

pub slice_bounds-is_bore-start : goal.slice_bounds-is_bore-start
slice_bounds-is_bore-start c = omega (arith, c.requires.fact_1.placed.laid, c.requires.fact_1.reals_room, (kept _ c.args.at _ _ c.requires.fact_1 c.args.f c.requires.fact_2 c.args.frame _ c.put_extent.auto.out c.put_extent.ensures).long)

pub slice_bounds-is_bore-end : goal.slice_bounds-is_bore-end
slice_bounds-is_bore-end c = omega (arith, c.requires.fact_1.placed.laid, c.requires.fact_1.reals_room, (kept _ c.args.at _ _ c.requires.fact_1 c.args.f c.requires.fact_2 c.args.frame _ c.put_extent.auto.out c.put_extent.ensures).long)

pub is_bore-requires : goal.is_bore-requires
is_bore-requires c =
    let begins = first_begins _ c.args.at _ _ c.requires.fact_1 c.args.f (get_or c.args.words.now (c.args.at.firsts + c.args.f) 0) c.requires.fact_2 refl in
    record {
      readable_1 = checked_readable _ c.requires.fact_1.placed.checked;
      readable_2 = c.requires.fact_1.the_words.chain;
      first_bound_1 = begins.below;
      first_bound_2 = begins.new;
      file_in_bounds_1 = omega (arith, c.requires.fact_1.placed.laid, c.requires.fact_1.placed.vertices, lent_long _ c.args.at _ _ c.requires.fact_1 c.args.f c.requires.fact_2 c.args.frame _ c.put_extent.auto.out c.put_extent.ensures);
      file_in_bounds_2 = c.requires.fact_3;
    }

pub shape_of-reals-then-is_bore : goal.shape_of-reals-then-is_bore
shape_of-reals-then-is_bore c =
    (concave _ c.args.at _ _ c.requires.fact_1 c.args.f c.requires.fact_2 c.args.frame _ c.put_extent.auto.out c.put_extent.ensures _ refl _ c.is_concave.ensures
    c.if-not-is_concave.false _ c.is_bore.auto.cells _ true c.is_bore.ensures.value c.if-is_bore.true).kept.long

pub returns-then-is_bore : goal.returns-then-is_bore
returns-then-is_bore c =
    concave _ c.args.at _ _ c.requires.fact_1 c.args.f c.requires.fact_2 c.args.frame _ c.put_extent.auto.out c.put_extent.ensures _ refl _ c.is_concave.ensures
    c.if-not-is_concave.false _ c.is_bore.auto.cells _ true c.is_bore.ensures.value c.if-is_bore.true

pub shape_of-reals : goal.shape_of-reals
shape_of-reals c =
    (concave _ c.args.at _ _ c.requires.fact_1 c.args.f c.requires.fact_2 c.args.frame _ c.put_extent.auto.out c.put_extent.ensures _ refl _ c.is_concave.ensures
    c.if-not-is_concave.false _ c.is_bore.auto.cells _ false c.is_bore.ensures.value c.if-is_bore.false).kept.long

pub returns : goal.returns
returns c =
    concave _ c.args.at _ _ c.requires.fact_1 c.args.f c.requires.fact_2 c.args.frame _ c.put_extent.auto.out c.put_extent.ensures _ refl _ c.is_concave.ensures
    c.if-not-is_concave.false _ c.is_bore.auto.cells _ false c.is_bore.ensures.value c.if-is_bore.false
