-- `rule_corners::corner::normals_of` meets its contract.
use native.Mathlib.Omega.{arith}
use Rattle.rule_corners.proofs.WalkLaws.{polygon_in, near_below, far_below, normals_turned, normals_straight}
use mathlib.Core.Path.{◌∙◌}
use Rattle.solid_tours.proofs.PutLaws.{standing_lent}
use Rattle.rule_corners.proofs.corner.normals_of.Goals as goal

pub sides_of-of-requires : goal.sides_of-of-requires
sides_of-of-requires c =
    record {
      fact_1 = c.requires.fact_1;
      fact_2 = c.requires.fact_2;
      fact_3 = c.requires.fact_3;
      fact_4 = c.requires.fact_4;
    }

pub offset_bounds-reals-start : goal.offset_bounds-reals-start
offset_bounds-reals-start c = omega (arith, c.requires.fact_1.placed.laid, c.requires.fact_1.words_room, c.requires.fact_1.reals_room)

pub slice_bounds-plane_at-count : goal.slice_bounds-plane_at-count
slice_bounds-plane_at-count c = omega (arith, c.requires.fact_1.placed.laid, c.requires.fact_1.words_room, c.requires.fact_1.reals_room)

pub slice_bounds-plane_at-start : goal.slice_bounds-plane_at-start
slice_bounds-plane_at-start c = omega (arith, c.requires.fact_1.placed.laid, c.requires.fact_1.words_room, c.requires.fact_1.reals_room)

pub slice_bounds-plane_at-end : goal.slice_bounds-plane_at-end
slice_bounds-plane_at-end c = omega (arith, c.requires.fact_1.placed.laid, c.requires.fact_1.words_room, c.requires.fact_1.reals_room)

pub plane_at-near-requires : goal.plane_at-near-requires
plane_at-near-requires c = omega (arith, (polygon_in _ _ _ _ c.requires.fact_1 _ _ c.sides_of-of.ensures).0, c.requires.fact_1.the_reals.planes.long)

pub offset_bounds-reals-start-2 : goal.offset_bounds-reals-start-2
offset_bounds-reals-start-2 c = omega (arith, c.requires.fact_1.placed.laid, c.requires.fact_1.words_room, c.requires.fact_1.reals_room)

pub slice_bounds-plane_at-count-2 : goal.slice_bounds-plane_at-count-2
slice_bounds-plane_at-count-2 c = omega (arith, c.requires.fact_1.placed.laid, c.requires.fact_1.words_room, c.requires.fact_1.reals_room)

pub slice_bounds-plane_at-start-2 : goal.slice_bounds-plane_at-start-2
slice_bounds-plane_at-start-2 c = omega (arith, c.requires.fact_1.placed.laid, c.requires.fact_1.words_room, c.requires.fact_1.reals_room)

pub slice_bounds-plane_at-end-2 : goal.slice_bounds-plane_at-end-2
slice_bounds-plane_at-end-2 c = omega (arith, c.requires.fact_1.placed.laid, c.requires.fact_1.words_room, c.requires.fact_1.reals_room)

pub plane_at-far-requires : goal.plane_at-far-requires
plane_at-far-requires c = omega (arith, (polygon_in _ _ _ _ c.requires.fact_1 _ _ c.sides_of-of.ensures).1, c.requires.fact_1.the_reals.planes.long)

pub overflow_add-faces : goal.overflow_add-faces
overflow_add-faces c = omega (arith, (polygon_in _ _ _ _ c.requires.fact_1 _ _ c.sides_of-of.ensures).0, c.requires.fact_1.placed.laid)

pub cell-near_face-requires : goal.cell-near_face-requires
cell-near_face-requires c = omega (arith, (polygon_in _ _ _ _ c.requires.fact_1 _ _ c.sides_of-of.ensures).0, c.requires.fact_1.placed.laid, c.requires.fact_1.words_room, c.requires.fact_1.reals_room)

pub overflow_add-faces-2 : goal.overflow_add-faces-2
overflow_add-faces-2 c = omega (arith, (polygon_in _ _ _ _ c.requires.fact_1 _ _ c.sides_of-of.ensures).1, c.requires.fact_1.placed.laid)

pub cell-far_face-requires : goal.cell-far_face-requires
cell-far_face-requires c = omega (arith, (polygon_in _ _ _ _ c.requires.fact_1 _ _ c.sides_of-of.ensures).1, c.requires.fact_1.placed.laid, c.requires.fact_1.words_room, c.requires.fact_1.reals_room)

pub offset_bounds-words-faces : goal.offset_bounds-words-faces
offset_bounds-words-faces c = omega (arith, c.requires.fact_1.placed.laid, c.requires.fact_1.words_room, c.requires.fact_1.reals_room)

pub slice_bounds-face_before-count : goal.slice_bounds-face_before-count
slice_bounds-face_before-count c = omega (arith, c.requires.fact_1.placed.laid, c.requires.fact_1.words_room, c.requires.fact_1.reals_room)

pub slice_bounds-face_before-start : goal.slice_bounds-face_before-start
slice_bounds-face_before-start c = omega (arith, c.requires.fact_1.placed.laid, c.requires.fact_1.words_room, c.requires.fact_1.reals_room)

pub slice_bounds-face_before-end : goal.slice_bounds-face_before-end
slice_bounds-face_before-end c = omega (arith, c.requires.fact_1.placed.laid, c.requires.fact_1.words_room, c.requires.fact_1.reals_room)

pub face_before-requires : goal.face_before-requires
face_before-requires c =
    record {
      fact_1 = (standing_lent _ _ _ _ c.requires.fact_1 c.requires.fact_4).faced;
      fact_2 = far_below _ _ _ _ c.requires.fact_1 _ _ c.sides_of-of.ensures _ c.cell-far_face.ensures;
      fact_3 = near_below _ _ _ _ c.requires.fact_1 _ _ c.sides_of-of.ensures _ c.cell-near_face.ensures;
    }

pub returns-then-face_before : goal.returns-then-face_before
returns-then-face_before c = normals_turned _ _ _ _ c.requires.fact_1 _ _ c.sides_of-of.ensures _ _ (c.plane_at-near.ensures ∙ c.requires.fact_1.the_reals.planes.each _ (polygon_in _ _ _ _ c.requires.fact_1 _ _ c.sides_of-of.ensures).0) (c.plane_at-far.ensures ∙ c.requires.fact_1.the_reals.planes.each _ (polygon_in _ _ _ _ c.requires.fact_1 _ _ c.sides_of-of.ensures).1) _ _ _ c.cell-near_face.ensures c.cell-far_face.ensures c.face_before.ensures c.if-face_before.true

pub returns : goal.returns
returns c = normals_straight _ _ _ _ c.requires.fact_1 _ _ c.sides_of-of.ensures _ _ (c.plane_at-near.ensures ∙ c.requires.fact_1.the_reals.planes.each _ (polygon_in _ _ _ _ c.requires.fact_1 _ _ c.sides_of-of.ensures).0) (c.plane_at-far.ensures ∙ c.requires.fact_1.the_reals.planes.each _ (polygon_in _ _ _ _ c.requires.fact_1 _ _ c.sides_of-of.ensures).1) _ _ _ c.cell-near_face.ensures c.cell-far_face.ensures c.face_before.ensures c.if-face_before.false
