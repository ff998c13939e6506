-- `rule_corners::corner::next_corner` meets its contract: the group at a place and its two faces.
use native.Mathlib.Omega.{arith}
use Rattle.rule_corners.proofs.WalkLaws.{polygon_in, near_below, far_below, order_numbered, next_is}
use Rattle.scratch.proofs.StandingLaws.{placed_vertices}
use Rattle.rule_corners.proofs.corner.next_corner.Goals as goal

pub offset_bounds-reals-keys : goal.offset_bounds-reals-keys
offset_bounds-reals-keys c = omega (arith, c.requires.fact_1.standing.placed.laid, c.requires.fact_1.standing.words_room, c.requires.fact_1.standing.reals_room)

pub slice_bounds-group_end-count : goal.slice_bounds-group_end-count
slice_bounds-group_end-count c = omega (arith, c.requires.fact_1.standing.placed.laid, c.requires.fact_1.standing.words_room, c.requires.fact_1.standing.reals_room)

pub slice_bounds-group_end-start : goal.slice_bounds-group_end-start
slice_bounds-group_end-start c = omega (arith, c.requires.fact_1.standing.placed.laid, c.requires.fact_1.standing.words_room, c.requires.fact_1.standing.reals_room)

pub slice_bounds-group_end-end : goal.slice_bounds-group_end-end
slice_bounds-group_end-end c = omega (arith, c.requires.fact_1.standing.placed.laid, c.requires.fact_1.standing.words_room, c.requires.fact_1.standing.reals_room)

pub offset_bounds-words-sorted : goal.offset_bounds-words-sorted
offset_bounds-words-sorted c = omega (arith, c.requires.fact_1.standing.placed.laid, c.requires.fact_1.standing.words_room, c.requires.fact_1.standing.reals_room)

pub slice_bounds-group_end-count-2 : goal.slice_bounds-group_end-count-2
slice_bounds-group_end-count-2 c = omega (arith, c.requires.fact_1.standing.placed.laid, c.requires.fact_1.standing.words_room, c.requires.fact_1.standing.reals_room)

pub slice_bounds-group_end-start-2 : goal.slice_bounds-group_end-start-2
slice_bounds-group_end-start-2 c = omega (arith, c.requires.fact_1.standing.placed.laid, c.requires.fact_1.standing.words_room, c.requires.fact_1.standing.reals_room)

pub slice_bounds-group_end-end-2 : goal.slice_bounds-group_end-end-2
slice_bounds-group_end-end-2 c = omega (arith, c.requires.fact_1.standing.placed.laid, c.requires.fact_1.standing.words_room, c.requires.fact_1.standing.reals_room)

pub group_end-end-requires : goal.group_end-end-requires
group_end-end-requires c =
    record {
      fact_1 = c.requires.fact_3;
      fact_2 = (order_numbered _ _ _ _ c.requires.fact_1 _ c.requires.fact_2.corners).0;
      fact_3 = (order_numbered _ _ _ _ c.requires.fact_1 _ c.requires.fact_2.corners).1;
    }

pub side_at-requires : goal.side_at-requires
side_at-requires c =
    record {
      fact_1 = c.requires.fact_1;
      fact_2 = omega (arith, c.requires.fact_3, c.requires.fact_2.corners);
    }

pub sides_of-of-requires : goal.sides_of-of-requires
sides_of-of-requires c =
    record {
      fact_1 = c.requires.fact_1.standing;
      fact_2 = omega (arith, c.side_at.ensures.below, placed_vertices _ _ c.requires.fact_1.standing.placed);
      fact_3 = c.side_at.ensures.edge;
      fact_4 = c.requires.fact_1.edged;
    }

pub overflow_add-faces : goal.overflow_add-faces
overflow_add-faces c = omega (arith, (polygon_in _ _ _ _ c.requires.fact_1.standing _ _ c.sides_of-of.ensures).0, c.requires.fact_1.standing.placed.laid)

pub cell-near-requires : goal.cell-near-requires
cell-near-requires c = omega (arith, (polygon_in _ _ _ _ c.requires.fact_1.standing _ _ c.sides_of-of.ensures).0, c.requires.fact_1.standing.placed.laid, c.requires.fact_1.standing.words_room, c.requires.fact_1.standing.reals_room)

pub overflow_add-faces-2 : goal.overflow_add-faces-2
overflow_add-faces-2 c = omega (arith, (polygon_in _ _ _ _ c.requires.fact_1.standing _ _ c.sides_of-of.ensures).1, c.requires.fact_1.standing.placed.laid)

pub cell-far-requires : goal.cell-far-requires
cell-far-requires c = omega (arith, (polygon_in _ _ _ _ c.requires.fact_1.standing _ _ c.sides_of-of.ensures).1, c.requires.fact_1.standing.placed.laid, c.requires.fact_1.standing.words_room, c.requires.fact_1.standing.reals_room)

pub pair_of-pair-requires : goal.pair_of-pair-requires
pair_of-pair-requires c =
    record {
      placed_1 = c.requires.fact_1.standing.placed;
      placed_2 = c.requires.fact_1.standing.words_room;
      placed_3 = c.requires.fact_1.ranked;
      n_value_1 = c.requires.fact_2.faces;
      n_value_2 = omega (arith, near_below _ _ _ _ c.requires.fact_1.standing _ _ c.sides_of-of.ensures _ c.cell-near.ensures, c.requires.fact_2.faces);
      n_value_3 = omega (arith, far_below _ _ _ _ c.requires.fact_1.standing _ _ c.sides_of-of.ensures _ c.cell-far.ensures, c.requires.fact_2.faces);
    }

pub returns : goal.returns
returns c = next_is _ _ _ _ c.requires.fact_1 _ _ _ _ _ _ _ _ c.requires.fact_2.corners c.group_end-end.ensures c.side_at.ensures c.sides_of-of.ensures c.cell-near.ensures c.cell-far.ensures c.pair_of-pair.ensures
