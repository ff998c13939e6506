-- `rule_corners::segment::side_end` meets its contract.
use Rattle.solid_tours.proofs.PutLaws.{standing_lent}
use native.Mathlib.Omega.{arith}
use Rattle.rule_corners.proofs.segment.side_end.Goals as goal

pub offset_bounds-words-sides : goal.offset_bounds-words-sides
offset_bounds-words-sides c = omega (arith, c.requires.fact_1.placed.laid, c.requires.fact_1.words_room)

pub slice_bounds-end_at-count : goal.slice_bounds-end_at-count
slice_bounds-end_at-count c = omega (arith, c.requires.fact_1.placed.laid, c.requires.fact_1.words_room)

pub slice_bounds-end_at-start : goal.slice_bounds-end_at-start
slice_bounds-end_at-start c = omega (arith, c.requires.fact_1.placed.laid, c.requires.fact_1.words_room)

pub slice_bounds-end_at-end : goal.slice_bounds-end_at-end
slice_bounds-end_at-end c = omega (arith, c.requires.fact_1.placed.laid, c.requires.fact_1.words_room)

pub offset_bounds-words-faces : goal.offset_bounds-words-faces
offset_bounds-words-faces c = omega (arith, c.requires.fact_1.placed.laid, c.requires.fact_1.words_room)

pub slice_bounds-end_at-count-2 : goal.slice_bounds-end_at-count-2
slice_bounds-end_at-count-2 c = omega (arith, c.requires.fact_1.placed.laid, c.requires.fact_1.words_room)

pub slice_bounds-end_at-start-2 : goal.slice_bounds-end_at-start-2
slice_bounds-end_at-start-2 c = omega (arith, c.requires.fact_1.placed.laid, c.requires.fact_1.words_room)

pub slice_bounds-end_at-end-2 : goal.slice_bounds-end_at-end-2
slice_bounds-end_at-end-2 c = omega (arith, c.requires.fact_1.placed.laid, c.requires.fact_1.words_room)

pub end_at-requires : goal.end_at-requires
end_at-requires c =
    record {
      fact_1 = standing_lent _ _ _ _ c.requires.fact_1 c.requires.fact_3;
      fact_2 = omega (arith, c.requires.fact_2, c.requires.fact_1.placed.vertices);
    }

pub returns : goal.returns
returns c =
    record {
      fact_1 = c.end_at.ensures.fact_1;
      fact_2 = omega (arith, c.end_at.ensures.fact_2, c.requires.fact_1.placed.vertices);
    }
