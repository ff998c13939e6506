-- `wall_median::rough` meets its contract.
use Rattle.wall_median.proofs.RoughLaws.{few, all_pairs, rough_is, order_outside}
use native.Mathlib.Omega.{arith}
use Rattle.wall_median.proofs.rough.Goals as goal

pub put_numbers-requires : goal.put_numbers-requires
put_numbers-requires c = let f = few _ _ _ _ _ c.requires.fact_1 c.requires.fact_2 c.requires.fact_3 in
    record {
      fact_1 = omega (arith, f, c.requires.fact_1.placed.laid, c.requires.fact_1.words_room);
      fact_2 = omega (arith, f, c.requires.fact_1.placed.laid);
    }

pub overflow_add-thickness_end : goal.overflow_add-thickness_end
overflow_add-thickness_end c = omega (arith, few _ _ _ _ _ c.requires.fact_1 c.requires.fact_2 c.requires.fact_3, c.requires.fact_1.placed.laid)

pub overflow_add-area_end : goal.overflow_add-area_end
overflow_add-area_end c = omega (arith, few _ _ _ _ _ c.requires.fact_1 c.requires.fact_2 c.requires.fact_3, c.requires.fact_1.placed.laid)

pub offset_bounds-reals-thickness : goal.offset_bounds-reals-thickness
offset_bounds-reals-thickness c = omega (arith, few _ _ _ _ _ c.requires.fact_1 c.requires.fact_2 c.requires.fact_3, c.requires.fact_1.placed.laid)

pub slice_bounds-weighted_median-count : goal.slice_bounds-weighted_median-count
slice_bounds-weighted_median-count c = omega (arith, few _ _ _ _ _ c.requires.fact_1 c.requires.fact_2 c.requires.fact_3, c.requires.fact_1.placed.laid)

pub slice_bounds-weighted_median-start : goal.slice_bounds-weighted_median-start
slice_bounds-weighted_median-start c = omega (arith, few _ _ _ _ _ c.requires.fact_1 c.requires.fact_2 c.requires.fact_3, c.requires.fact_1.placed.laid, c.requires.fact_1.reals_room)

pub slice_bounds-weighted_median-end : goal.slice_bounds-weighted_median-end
slice_bounds-weighted_median-end c = omega (arith, few _ _ _ _ _ c.requires.fact_1 c.requires.fact_2 c.requires.fact_3, c.requires.fact_1.placed.laid, c.requires.fact_1.reals_room)

pub offset_bounds-reals-area : goal.offset_bounds-reals-area
offset_bounds-reals-area c = omega (arith, few _ _ _ _ _ c.requires.fact_1 c.requires.fact_2 c.requires.fact_3, c.requires.fact_1.placed.laid)

pub slice_bounds-weighted_median-count-2 : goal.slice_bounds-weighted_median-count-2
slice_bounds-weighted_median-count-2 c = omega (arith, few _ _ _ _ _ c.requires.fact_1 c.requires.fact_2 c.requires.fact_3, c.requires.fact_1.placed.laid)

pub slice_bounds-weighted_median-start-2 : goal.slice_bounds-weighted_median-start-2
slice_bounds-weighted_median-start-2 c = omega (arith, few _ _ _ _ _ c.requires.fact_1 c.requires.fact_2 c.requires.fact_3, c.requires.fact_1.placed.laid, c.requires.fact_1.reals_room)

pub slice_bounds-weighted_median-end-2 : goal.slice_bounds-weighted_median-end-2
slice_bounds-weighted_median-end-2 c = omega (arith, few _ _ _ _ _ c.requires.fact_1 c.requires.fact_2 c.requires.fact_3, c.requires.fact_1.placed.laid, c.requires.fact_1.reals_room)

pub offset_bounds-words-order : goal.offset_bounds-words-order
offset_bounds-words-order c = omega (arith, few _ _ _ _ _ c.requires.fact_1 c.requires.fact_2 c.requires.fact_3, c.requires.fact_1.placed.laid)

pub slice_bounds-weighted_median-count-3 : goal.slice_bounds-weighted_median-count-3
slice_bounds-weighted_median-count-3 c = omega (arith, few _ _ _ _ _ c.requires.fact_1 c.requires.fact_2 c.requires.fact_3, c.requires.fact_1.placed.laid)

pub slice_bounds-weighted_median-start-3 : goal.slice_bounds-weighted_median-start-3
slice_bounds-weighted_median-start-3 c = omega (arith, c.requires.fact_1.placed.laid, c.requires.fact_1.words_room, c.put_numbers.ensures.kept.long)

pub slice_bounds-weighted_median-end-3 : goal.slice_bounds-weighted_median-end-3
slice_bounds-weighted_median-end-3 c = omega (arith, c.requires.fact_1.placed.laid, c.requires.fact_1.words_room, c.put_numbers.ensures.kept.long)

pub weighted_median-requires : goal.weighted_median-requires
weighted_median-requires c = all_pairs _ _ _ _ _ c.requires.fact_1 c.requires.fact_2 c.requires.fact_3 _ c.put_numbers.ensures

pub returns : goal.returns
returns c =
    record {
      fact_1 = rough_is _ _ _ _ _ c.requires.fact_1 c.requires.fact_2 c.requires.fact_3 _ c.put_numbers.ensures _ _ c.weighted_median.ensures;
      fact_2 = order_outside _ _ _ _ _ c.requires.fact_1 c.requires.fact_2 c.requires.fact_3 _ c.put_numbers.ensures _ _ c.weighted_median.ensures;
    }
