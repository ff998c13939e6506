-- `solid_tours::pack::pack_edge` meets its contract: one place more.
use native.Mathlib.Omega.{arith}
use Rattle.solid_edges.proofs.ScanLaws.{vertex_room}
use Rattle.scratch.proofs.StandingLaws.{placed_vertices}
use Rattle.solid_tours.proofs.PutLaws.{standing_lent}
use Rattle.solid_tours.proofs.PlaceLaws.{most}
use Rattle.solid_tours.proofs.PackLaws.{edges_sorted, packed_inside, pack_one}
use Rattle.solid_tours.proofs.pack.pack_edge.Goals as goal

pub item_at-s-requires : goal.item_at-s-requires
item_at-s-requires c =
    record {
      fact_1 = edges_sorted _ _ _ c.requires.fact_1;
      fact_2 = c.requires.fact_2;
    }

pub offset_bounds-words-sides : goal.offset_bounds-words-sides
offset_bounds-words-sides c = omega (arith, c.requires.fact_1.standing.placed.laid, c.requires.fact_1.standing.words_room, c.requires.fact_1.standing.reals_room, most _ _ _ _ c.requires.fact_1)

pub slice_bounds-end_at-count : goal.slice_bounds-end_at-count
slice_bounds-end_at-count c = omega (arith, c.requires.fact_1.standing.placed.laid, c.requires.fact_1.standing.words_room, c.requires.fact_1.standing.reals_room, most _ _ _ _ c.requires.fact_1)

pub slice_bounds-end_at-start : goal.slice_bounds-end_at-start
slice_bounds-end_at-start c = omega (arith, c.requires.fact_1.standing.placed.laid, c.requires.fact_1.standing.words_room, c.requires.fact_1.standing.reals_room, most _ _ _ _ c.requires.fact_1)

pub slice_bounds-end_at-end : goal.slice_bounds-end_at-end
slice_bounds-end_at-end c = omega (arith, c.requires.fact_1.standing.placed.laid, c.requires.fact_1.standing.words_room, c.requires.fact_1.standing.reals_room, most _ _ _ _ c.requires.fact_1)

pub offset_bounds-words-faces : goal.offset_bounds-words-faces
offset_bounds-words-faces c = omega (arith, c.requires.fact_1.standing.placed.laid, c.requires.fact_1.standing.words_room, c.requires.fact_1.standing.reals_room, most _ _ _ _ c.requires.fact_1)

pub slice_bounds-end_at-count-2 : goal.slice_bounds-end_at-count-2
slice_bounds-end_at-count-2 c = omega (arith, c.requires.fact_1.standing.placed.laid, c.requires.fact_1.standing.words_room, c.requires.fact_1.standing.reals_room, most _ _ _ _ c.requires.fact_1)

pub slice_bounds-end_at-start-2 : goal.slice_bounds-end_at-start-2
slice_bounds-end_at-start-2 c = omega (arith, c.requires.fact_1.standing.placed.laid, c.requires.fact_1.standing.words_room, c.requires.fact_1.standing.reals_room, most _ _ _ _ c.requires.fact_1)

pub slice_bounds-end_at-end-2 : goal.slice_bounds-end_at-end-2
slice_bounds-end_at-end-2 c = omega (arith, c.requires.fact_1.standing.placed.laid, c.requires.fact_1.standing.words_room, c.requires.fact_1.standing.reals_room, most _ _ _ _ c.requires.fact_1)

pub end_at-to-requires : goal.end_at-to-requires
end_at-to-requires c =
    record {
      fact_1 = standing_lent _ _ _ _ c.requires.fact_1.standing c.requires.fact_1.edged;
      fact_2 = omega (arith, c.item_at-s.ensures.below, placed_vertices _ _ c.requires.fact_1.standing.placed, c.requires.fact_1.standing.placed.vertices);
    }

pub vertex-requires : goal.vertex-requires
vertex-requires c = vertex_room (standing_lent _ _ _ _ c.requires.fact_1.standing c.requires.fact_1.edged) _ (omega (arith, c.item_at-s.ensures.below, placed_vertices _ _ c.requires.fact_1.standing.placed, c.requires.fact_1.standing.placed.vertices))

pub vertex-requires-2 : goal.vertex-requires-2
vertex-requires-2 c = vertex_room (standing_lent _ _ _ _ c.requires.fact_1.standing c.requires.fact_1.edged) _ c.end_at-to.ensures.fact_2

pub new-segment-requires : goal.new-segment-requires
new-segment-requires c = tt

pub overflow_mul-j : goal.overflow_mul-j
overflow_mul-j c = omega (arith, c.requires.fact_2, c.requires.fact_1.standing.placed.laid, c.requires.fact_1.standing.words_room, c.requires.fact_1.standing.reals_room, most _ _ _ _ c.requires.fact_1)

pub overflow_add-free : goal.overflow_add-free
overflow_add-free c = omega (arith, c.requires.fact_2, c.requires.fact_1.standing.placed.laid, c.requires.fact_1.standing.words_room, c.requires.fact_1.standing.reals_room, most _ _ _ _ c.requires.fact_1)

pub put_segment-requires : goal.put_segment-requires
put_segment-requires c = packed_inside _ _ _ _ c.requires.fact_1 _ c.requires.fact_2

pub shape_of-reals : goal.shape_of-reals
shape_of-reals c = (pack_one _ _ _ _ _ c.requires.fact_1 c.requires.fact_2 _ _ _ _ _ _ c.item_at-s.ensures c.end_at-to.ensures.fact_1 c.vertex.ensures c.vertex-2.ensures c.new-segment.ensures c.put_segment.ensures).kept.long

pub returns : goal.returns
returns c = pack_one _ _ _ _ _ c.requires.fact_1 c.requires.fact_2 _ _ _ _ _ _ c.item_at-s.ensures c.end_at-to.ensures.fact_1 c.vertex.ensures c.vertex-2.ensures c.new-segment.ensures c.put_segment.ensures
