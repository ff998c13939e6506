-- `rule_corners::segment::sides_of` meets its contract.
use Rattle.rule_corners.proofs.SegmentLaws.{second_side, sides_are}
use Rattle.solid_tours.proofs.PutLaws.{standing_lent}
use Rattle.file_part.proofs.PartLaws.{part_vertices}
use native.Mathlib.Omega.{arith}
use Rattle.rule_corners.proofs.segment.sides_of.Goals as goal

pub offset_bounds-words-sides : goal.offset_bounds-words-sides
offset_bounds-words-sides c = omega (arith, c.requires.fact_1.placed.laid, c.requires.fact_1.words_room)

pub slice_bounds-pair_at-count : goal.slice_bounds-pair_at-count
slice_bounds-pair_at-count c = omega (arith, c.requires.fact_1.placed.laid, c.requires.fact_1.words_room)

pub slice_bounds-pair_at-start : goal.slice_bounds-pair_at-start
slice_bounds-pair_at-start c = omega (arith, c.requires.fact_1.placed.laid, c.requires.fact_1.words_room)

pub slice_bounds-pair_at-end : goal.slice_bounds-pair_at-end
slice_bounds-pair_at-end c = omega (arith, c.requires.fact_1.placed.laid, c.requires.fact_1.words_room)

pub offset_bounds-words-faces : goal.offset_bounds-words-faces
offset_bounds-words-faces c = omega (arith, c.requires.fact_1.placed.laid, c.requires.fact_1.words_room)

pub slice_bounds-pair_at-count-2 : goal.slice_bounds-pair_at-count-2
slice_bounds-pair_at-count-2 c = omega (arith, c.requires.fact_1.placed.laid, c.requires.fact_1.words_room)

pub slice_bounds-pair_at-start-2 : goal.slice_bounds-pair_at-start-2
slice_bounds-pair_at-start-2 c = omega (arith, c.requires.fact_1.placed.laid, c.requires.fact_1.words_room)

pub slice_bounds-pair_at-end-2 : goal.slice_bounds-pair_at-end-2
slice_bounds-pair_at-end-2 c = omega (arith, c.requires.fact_1.placed.laid, c.requires.fact_1.words_room)

pub pair_at-pair-requires : goal.pair_at-pair-requires
pair_at-pair-requires c =
    record {
      fact_1 = standing_lent _ _ _ _ c.requires.fact_1 c.requires.fact_4;
      fact_2 = omega (arith, c.requires.fact_2, c.requires.fact_1.placed.vertices);
    }

pub offset_bounds-words-sides-2 : goal.offset_bounds-words-sides-2
offset_bounds-words-sides-2 c = omega (arith, c.requires.fact_1.placed.laid, c.requires.fact_1.words_room)

pub slice_bounds-owner_at-count : goal.slice_bounds-owner_at-count
slice_bounds-owner_at-count c = omega (arith, c.requires.fact_1.placed.laid, c.requires.fact_1.words_room)

pub slice_bounds-owner_at-start : goal.slice_bounds-owner_at-start
slice_bounds-owner_at-start c = omega (arith, c.requires.fact_1.placed.laid, c.requires.fact_1.words_room)

pub slice_bounds-owner_at-end : goal.slice_bounds-owner_at-end
slice_bounds-owner_at-end c = omega (arith, c.requires.fact_1.placed.laid, c.requires.fact_1.words_room)

pub offset_bounds-words-faces-2 : goal.offset_bounds-words-faces-2
offset_bounds-words-faces-2 c = omega (arith, c.requires.fact_1.placed.laid, c.requires.fact_1.words_room)

pub slice_bounds-owner_at-count-2 : goal.slice_bounds-owner_at-count-2
slice_bounds-owner_at-count-2 c = omega (arith, c.requires.fact_1.placed.laid, c.requires.fact_1.words_room)

pub slice_bounds-owner_at-start-2 : goal.slice_bounds-owner_at-start-2
slice_bounds-owner_at-start-2 c = omega (arith, c.requires.fact_1.placed.laid, c.requires.fact_1.words_room)

pub slice_bounds-owner_at-end-2 : goal.slice_bounds-owner_at-end-2
slice_bounds-owner_at-end-2 c = omega (arith, c.requires.fact_1.placed.laid, c.requires.fact_1.words_room)

pub owner_at-requires : goal.owner_at-requires
owner_at-requires c =
    record {
      fact_1 = standing_lent _ _ _ _ c.requires.fact_1 c.requires.fact_4;
      fact_2 = omega (arith, c.requires.fact_2, c.requires.fact_1.placed.vertices);
    }

pub offset_bounds-words-sides-3 : goal.offset_bounds-words-sides-3
offset_bounds-words-sides-3 c = omega (arith, c.requires.fact_1.placed.laid, c.requires.fact_1.words_room)

pub slice_bounds-owner_at-count-3 : goal.slice_bounds-owner_at-count-3
slice_bounds-owner_at-count-3 c = omega (arith, c.requires.fact_1.placed.laid, c.requires.fact_1.words_room)

pub slice_bounds-owner_at-start-3 : goal.slice_bounds-owner_at-start-3
slice_bounds-owner_at-start-3 c = omega (arith, c.requires.fact_1.placed.laid, c.requires.fact_1.words_room)

pub slice_bounds-owner_at-end-3 : goal.slice_bounds-owner_at-end-3
slice_bounds-owner_at-end-3 c = omega (arith, c.requires.fact_1.placed.laid, c.requires.fact_1.words_room)

pub offset_bounds-words-faces-3 : goal.offset_bounds-words-faces-3
offset_bounds-words-faces-3 c = omega (arith, c.requires.fact_1.placed.laid, c.requires.fact_1.words_room)

pub slice_bounds-owner_at-count-4 : goal.slice_bounds-owner_at-count-4
slice_bounds-owner_at-count-4 c = omega (arith, c.requires.fact_1.placed.laid, c.requires.fact_1.words_room)

pub slice_bounds-owner_at-start-4 : goal.slice_bounds-owner_at-start-4
slice_bounds-owner_at-start-4 c = omega (arith, c.requires.fact_1.placed.laid, c.requires.fact_1.words_room)

pub slice_bounds-owner_at-end-4 : goal.slice_bounds-owner_at-end-4
slice_bounds-owner_at-end-4 c = omega (arith, c.requires.fact_1.placed.laid, c.requires.fact_1.words_room)

pub overflow_sub-pair : goal.overflow_sub-pair
overflow_sub-pair c = omega (arith, second_side _ _ _ c.requires.fact_3 c.pair_at-pair.ensures)

pub owner_at-requires-2 : goal.owner_at-requires-2
owner_at-requires-2 c =
    record {
      fact_1 = standing_lent _ _ _ _ c.requires.fact_1 c.requires.fact_4;
      fact_2 = omega (arith, (second_side _ _ _ c.requires.fact_3 c.pair_at-pair.ensures).1, part_vertices c.args.file.now);
    }

pub returns : goal.returns
returns c = sides_are _ _ _ _ _ c.pair_at-pair.ensures c.owner_at.ensures.fact_1 c.owner_at.ensures.fact_2 c.owner_at-2.ensures.fact_1 c.owner_at-2.ensures.fact_2
