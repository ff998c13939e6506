-- `solid_tours::order::put_edge` meets its contract: none or two more.
use lib.ListN.{length-set}
use Rattle.solid_tours.proofs.PutLaws.{standing_lent, side_in, few, few_cells, near_in, far_in, none_put, two_room, ranks_room, ranks_in, both_put}
use native.Mathlib.Omega.{arith}
use Rattle.solid_tours.proofs.order.put_edge.Goals as goal

pub offset_bounds-words-sides : goal.offset_bounds-words-sides
offset_bounds-words-sides c = omega (arith, c.requires.standing_1.placed.laid, c.requires.standing_1.words_room, c.requires.standing_1.reals_room)

pub slice_bounds-edge_at-count : goal.slice_bounds-edge_at-count
slice_bounds-edge_at-count c = omega (arith, c.requires.standing_1.placed.laid, c.requires.standing_1.words_room, c.requires.standing_1.reals_room)

pub slice_bounds-edge_at-start : goal.slice_bounds-edge_at-start
slice_bounds-edge_at-start c = omega (arith, c.requires.standing_1.placed.laid, c.requires.standing_1.words_room, c.requires.standing_1.reals_room)

pub slice_bounds-edge_at-end : goal.slice_bounds-edge_at-end
slice_bounds-edge_at-end c = omega (arith, c.requires.standing_1.placed.laid, c.requires.standing_1.words_room, c.requires.standing_1.reals_room)

pub offset_bounds-words-faces : goal.offset_bounds-words-faces
offset_bounds-words-faces c = omega (arith, c.requires.standing_1.placed.laid, c.requires.standing_1.words_room, c.requires.standing_1.reals_room)

pub slice_bounds-edge_at-count-2 : goal.slice_bounds-edge_at-count-2
slice_bounds-edge_at-count-2 c = omega (arith, c.requires.standing_1.placed.laid, c.requires.standing_1.words_room, c.requires.standing_1.reals_room)

pub slice_bounds-edge_at-start-2 : goal.slice_bounds-edge_at-start-2
slice_bounds-edge_at-start-2 c = omega (arith, c.requires.standing_1.placed.laid, c.requires.standing_1.words_room, c.requires.standing_1.reals_room)

pub slice_bounds-edge_at-end-2 : goal.slice_bounds-edge_at-end-2
slice_bounds-edge_at-end-2 c = omega (arith, c.requires.standing_1.placed.laid, c.requires.standing_1.words_room, c.requires.standing_1.reals_room)

pub edge_at-requires : goal.edge_at-requires
edge_at-requires c =
    record {
      fact_1 = standing_lent _ _ _ _ c.requires.standing_1 c.requires.side_lt_vertices_3;
      fact_2 = side_in _ _ _ _ c.requires.standing_1 c.requires.standing_2 _ _ _ c.requires.standing_3 c.requires.side_lt_vertices_1 c.requires.side_lt_vertices_2;
    }

pub returns-in_default : goal.returns-in_default
returns-in_default c = none_put _ _ _ _ c.requires.standing_1 c.requires.standing_2 _ _ _ c.requires.standing_3 c.requires.side_lt_vertices_1 c.requires.side_lt_vertices_2 c.in_default.ensures

pub overflow_add-ranks : goal.overflow_add-ranks
overflow_add-ranks c = omega (arith, (ranks_room _ _ _ _ c.requires.standing_1 c.requires.standing_2 _ _ _ c.requires.standing_3 c.requires.side_lt_vertices_1 c.requires.side_lt_vertices_2 _ c.in-Some.ensures).0, c.requires.standing_1.placed.laid, near_in _ _ _ _ c.requires.standing_1 c.requires.standing_2 _ _ _ c.requires.standing_3 c.requires.side_lt_vertices_1 c.requires.side_lt_vertices_2 _ c.in-Some.ensures, few_cells _ _ _ _ c.requires.standing_1 c.requires.standing_2 _ _ _ c.requires.standing_3 c.requires.side_lt_vertices_1 c.requires.side_lt_vertices_2)

pub cell-near-requires : goal.cell-near-requires
cell-near-requires c = (ranks_room _ _ _ _ c.requires.standing_1 c.requires.standing_2 _ _ _ c.requires.standing_3 c.requires.side_lt_vertices_1 c.requires.side_lt_vertices_2 _ c.in-Some.ensures).0

pub overflow_add-ranks-2 : goal.overflow_add-ranks-2
overflow_add-ranks-2 c = omega (arith, (ranks_room _ _ _ _ c.requires.standing_1 c.requires.standing_2 _ _ _ c.requires.standing_3 c.requires.side_lt_vertices_1 c.requires.side_lt_vertices_2 _ c.in-Some.ensures).1, c.requires.standing_1.placed.laid, far_in _ _ _ _ c.requires.standing_1 c.requires.standing_2 _ _ _ c.requires.standing_3 c.requires.side_lt_vertices_1 c.requires.side_lt_vertices_2 _ c.in-Some.ensures, few_cells _ _ _ _ c.requires.standing_1 c.requires.standing_2 _ _ _ c.requires.standing_3 c.requires.side_lt_vertices_1 c.requires.side_lt_vertices_2)

pub cell-beyond-requires : goal.cell-beyond-requires
cell-beyond-requires c = (ranks_room _ _ _ _ c.requires.standing_1 c.requires.standing_2 _ _ _ c.requires.standing_3 c.requires.side_lt_vertices_1 c.requires.side_lt_vertices_2 _ c.in-Some.ensures).1

pub edge_key-near_key-requires : goal.edge_key-near_key-requires
edge_key-near_key-requires c = let r = ranks_in _ _ _ _ c.requires.standing_1 c.requires.standing_2 _ _ _ c.requires.standing_3 c.requires.side_lt_vertices_1 c.requires.side_lt_vertices_2 _ c.in-Some.ensures _ _ c.cell-near.ensures c.cell-beyond.ensures in
    record {
      fact_1 = r.0;
      fact_2 = r.1;
      fact_3 = few _ _ _ _ c.requires.standing_1 c.requires.standing_2 _ _ _ c.requires.standing_3 c.requires.side_lt_vertices_1 c.requires.side_lt_vertices_2;
    }

pub edge_key-far_key-requires : goal.edge_key-far_key-requires
edge_key-far_key-requires c = let r = ranks_in _ _ _ _ c.requires.standing_1 c.requires.standing_2 _ _ _ c.requires.standing_3 c.requires.side_lt_vertices_1 c.requires.side_lt_vertices_2 _ c.in-Some.ensures _ _ c.cell-near.ensures c.cell-beyond.ensures in
    record {
      fact_1 = r.1;
      fact_2 = r.0;
      fact_3 = few _ _ _ _ c.requires.standing_1 c.requires.standing_2 _ _ _ c.requires.standing_3 c.requires.side_lt_vertices_1 c.requires.side_lt_vertices_2;
    }

pub overflow_cast-words : goal.overflow_cast-words
overflow_cast-words c = omega (arith, c.requires.standing_1.placed.laid, c.requires.standing_1.words_room, c.requires.standing_1.reals_room, side_in _ _ _ _ c.requires.standing_1 c.requires.standing_2 _ _ _ c.requires.standing_3 c.requires.side_lt_vertices_1 c.requires.side_lt_vertices_2, two_room _ _ _ _ c.requires.standing_1 c.requires.standing_2 _ _ _ c.requires.standing_3 c.requires.side_lt_vertices_1 c.requires.side_lt_vertices_2 _ c.in-Some.ensures)

pub overflow_add-words : goal.overflow_add-words
overflow_add-words c = omega (arith, c.requires.standing_1.placed.laid, c.requires.standing_1.words_room, c.requires.standing_1.reals_room, side_in _ _ _ _ c.requires.standing_1 c.requires.standing_2 _ _ _ c.requires.standing_3 c.requires.side_lt_vertices_1 c.requires.side_lt_vertices_2, two_room _ _ _ _ c.requires.standing_1 c.requires.standing_2 _ _ _ c.requires.standing_3 c.requires.side_lt_vertices_1 c.requires.side_lt_vertices_2 _ c.in-Some.ensures)

pub offset_bounds-words-items : goal.offset_bounds-words-items
offset_bounds-words-items c = omega (arith, c.requires.standing_1.placed.laid, c.requires.standing_1.words_room, c.requires.standing_1.reals_room, side_in _ _ _ _ c.requires.standing_1 c.requires.standing_2 _ _ _ c.requires.standing_3 c.requires.side_lt_vertices_1 c.requires.side_lt_vertices_2, two_room _ _ _ _ c.requires.standing_1 c.requires.standing_2 _ _ _ c.requires.standing_3 c.requires.side_lt_vertices_1 c.requires.side_lt_vertices_2 _ c.in-Some.ensures)

pub bounds-words-items : goal.bounds-words-items
bounds-words-items c = omega (arith, c.requires.standing_1.placed.laid, c.requires.standing_1.words_room, c.requires.standing_1.reals_room, side_in _ _ _ _ c.requires.standing_1 c.requires.standing_2 _ _ _ c.requires.standing_3 c.requires.side_lt_vertices_1 c.requires.side_lt_vertices_2, two_room _ _ _ _ c.requires.standing_1 c.requires.standing_2 _ _ _ c.requires.standing_3 c.requires.side_lt_vertices_1 c.requires.side_lt_vertices_2 _ c.in-Some.ensures)

pub overflow_cast-words-2 : goal.overflow_cast-words-2
overflow_cast-words-2 c = omega (arith, c.requires.standing_1.placed.laid, c.requires.standing_1.words_room, c.requires.standing_1.reals_room, side_in _ _ _ _ c.requires.standing_1 c.requires.standing_2 _ _ _ c.requires.standing_3 c.requires.side_lt_vertices_1 c.requires.side_lt_vertices_2, two_room _ _ _ _ c.requires.standing_1 c.requires.standing_2 _ _ _ c.requires.standing_3 c.requires.side_lt_vertices_1 c.requires.side_lt_vertices_2 _ c.in-Some.ensures)

pub overflow_add-words-2 : goal.overflow_add-words-2
overflow_add-words-2 c = omega (arith, c.requires.standing_1.placed.laid, c.requires.standing_1.words_room, c.requires.standing_1.reals_room, side_in _ _ _ _ c.requires.standing_1 c.requires.standing_2 _ _ _ c.requires.standing_3 c.requires.side_lt_vertices_1 c.requires.side_lt_vertices_2, two_room _ _ _ _ c.requires.standing_1 c.requires.standing_2 _ _ _ c.requires.standing_3 c.requires.side_lt_vertices_1 c.requires.side_lt_vertices_2 _ c.in-Some.ensures)

pub overflow_add-words-3 : goal.overflow_add-words-3
overflow_add-words-3 c = omega (arith, c.requires.standing_1.placed.laid, c.requires.standing_1.words_room, c.requires.standing_1.reals_room, side_in _ _ _ _ c.requires.standing_1 c.requires.standing_2 _ _ _ c.requires.standing_3 c.requires.side_lt_vertices_1 c.requires.side_lt_vertices_2, two_room _ _ _ _ c.requires.standing_1 c.requires.standing_2 _ _ _ c.requires.standing_3 c.requires.side_lt_vertices_1 c.requires.side_lt_vertices_2 _ c.in-Some.ensures)

pub offset_bounds-words-items-2 : goal.offset_bounds-words-items-2
offset_bounds-words-items-2 c = omega (arith, c.requires.standing_1.placed.laid, c.requires.standing_1.words_room, c.requires.standing_1.reals_room, side_in _ _ _ _ c.requires.standing_1 c.requires.standing_2 _ _ _ c.requires.standing_3 c.requires.side_lt_vertices_1 c.requires.side_lt_vertices_2, two_room _ _ _ _ c.requires.standing_1 c.requires.standing_2 _ _ _ c.requires.standing_3 c.requires.side_lt_vertices_1 c.requires.side_lt_vertices_2 _ c.in-Some.ensures)

pub bounds-words-items-2 : goal.bounds-words-items-2
bounds-words-items-2 c = simp length-set (omega (arith, c.requires.standing_1.placed.laid, c.requires.standing_1.words_room, c.requires.standing_1.reals_room, side_in _ _ _ _ c.requires.standing_1 c.requires.standing_2 _ _ _ c.requires.standing_3 c.requires.side_lt_vertices_1 c.requires.side_lt_vertices_2, two_room _ _ _ _ c.requires.standing_1 c.requires.standing_2 _ _ _ c.requires.standing_3 c.requires.side_lt_vertices_1 c.requires.side_lt_vertices_2 _ c.in-Some.ensures))

pub overflow_add-reals : goal.overflow_add-reals
overflow_add-reals c = omega (arith, c.requires.standing_1.placed.laid, c.requires.standing_1.words_room, c.requires.standing_1.reals_room, side_in _ _ _ _ c.requires.standing_1 c.requires.standing_2 _ _ _ c.requires.standing_3 c.requires.side_lt_vertices_1 c.requires.side_lt_vertices_2, two_room _ _ _ _ c.requires.standing_1 c.requires.standing_2 _ _ _ c.requires.standing_3 c.requires.side_lt_vertices_1 c.requires.side_lt_vertices_2 _ c.in-Some.ensures)

pub offset_bounds-reals-keys : goal.offset_bounds-reals-keys
offset_bounds-reals-keys c = omega (arith, c.requires.standing_1.placed.laid, c.requires.standing_1.words_room, c.requires.standing_1.reals_room, side_in _ _ _ _ c.requires.standing_1 c.requires.standing_2 _ _ _ c.requires.standing_3 c.requires.side_lt_vertices_1 c.requires.side_lt_vertices_2, two_room _ _ _ _ c.requires.standing_1 c.requires.standing_2 _ _ _ c.requires.standing_3 c.requires.side_lt_vertices_1 c.requires.side_lt_vertices_2 _ c.in-Some.ensures)

pub bounds-reals-keys : goal.bounds-reals-keys
bounds-reals-keys c = omega (arith, c.requires.standing_1.placed.laid, c.requires.standing_1.words_room, c.requires.standing_1.reals_room, side_in _ _ _ _ c.requires.standing_1 c.requires.standing_2 _ _ _ c.requires.standing_3 c.requires.side_lt_vertices_1 c.requires.side_lt_vertices_2, two_room _ _ _ _ c.requires.standing_1 c.requires.standing_2 _ _ _ c.requires.standing_3 c.requires.side_lt_vertices_1 c.requires.side_lt_vertices_2 _ c.in-Some.ensures)

pub overflow_add-reals-2 : goal.overflow_add-reals-2
overflow_add-reals-2 c = omega (arith, c.requires.standing_1.placed.laid, c.requires.standing_1.words_room, c.requires.standing_1.reals_room, side_in _ _ _ _ c.requires.standing_1 c.requires.standing_2 _ _ _ c.requires.standing_3 c.requires.side_lt_vertices_1 c.requires.side_lt_vertices_2, two_room _ _ _ _ c.requires.standing_1 c.requires.standing_2 _ _ _ c.requires.standing_3 c.requires.side_lt_vertices_1 c.requires.side_lt_vertices_2 _ c.in-Some.ensures)

pub overflow_add-reals-3 : goal.overflow_add-reals-3
overflow_add-reals-3 c = omega (arith, c.requires.standing_1.placed.laid, c.requires.standing_1.words_room, c.requires.standing_1.reals_room, side_in _ _ _ _ c.requires.standing_1 c.requires.standing_2 _ _ _ c.requires.standing_3 c.requires.side_lt_vertices_1 c.requires.side_lt_vertices_2, two_room _ _ _ _ c.requires.standing_1 c.requires.standing_2 _ _ _ c.requires.standing_3 c.requires.side_lt_vertices_1 c.requires.side_lt_vertices_2 _ c.in-Some.ensures)

pub offset_bounds-reals-keys-2 : goal.offset_bounds-reals-keys-2
offset_bounds-reals-keys-2 c = omega (arith, c.requires.standing_1.placed.laid, c.requires.standing_1.words_room, c.requires.standing_1.reals_room, side_in _ _ _ _ c.requires.standing_1 c.requires.standing_2 _ _ _ c.requires.standing_3 c.requires.side_lt_vertices_1 c.requires.side_lt_vertices_2, two_room _ _ _ _ c.requires.standing_1 c.requires.standing_2 _ _ _ c.requires.standing_3 c.requires.side_lt_vertices_1 c.requires.side_lt_vertices_2 _ c.in-Some.ensures)

pub bounds-reals-keys-2 : goal.bounds-reals-keys-2
bounds-reals-keys-2 c = simp length-set (omega (arith, c.requires.standing_1.placed.laid, c.requires.standing_1.words_room, c.requires.standing_1.reals_room, side_in _ _ _ _ c.requires.standing_1 c.requires.standing_2 _ _ _ c.requires.standing_3 c.requires.side_lt_vertices_1 c.requires.side_lt_vertices_2, two_room _ _ _ _ c.requires.standing_1 c.requires.standing_2 _ _ _ c.requires.standing_3 c.requires.side_lt_vertices_1 c.requires.side_lt_vertices_2 _ c.in-Some.ensures))

pub overflow_add-result : goal.overflow_add-result
overflow_add-result c = omega (arith, c.requires.standing_1.placed.laid, c.requires.standing_1.words_room, c.requires.standing_1.reals_room, side_in _ _ _ _ c.requires.standing_1 c.requires.standing_2 _ _ _ c.requires.standing_3 c.requires.side_lt_vertices_1 c.requires.side_lt_vertices_2, two_room _ _ _ _ c.requires.standing_1 c.requires.standing_2 _ _ _ c.requires.standing_3 c.requires.side_lt_vertices_1 c.requires.side_lt_vertices_2 _ c.in-Some.ensures)

pub shape_of-words : goal.shape_of-words
shape_of-words c = simp length-set

pub shape_of-reals : goal.shape_of-reals
shape_of-reals c = simp length-set

pub returns : goal.returns
returns c = both_put _ _ _ _ c.requires.standing_1 c.requires.standing_2 _ _ _ c.requires.standing_3 c.requires.side_lt_vertices_1 c.requires.side_lt_vertices_2 _ c.in-Some.ensures _ _ c.cell-near.ensures c.cell-beyond.ensures _ _ c.edge_key-near_key.ensures c.edge_key-far_key.ensures
