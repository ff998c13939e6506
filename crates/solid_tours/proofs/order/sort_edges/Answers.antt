-- `solid_tours::order::sort_edges` meets its contract: put, then sorted.
use Rattle.solid_tours.proofs.PutLaws.{sort_room, sorted_put}
use native.Mathlib.Omega.{arith}
use Rattle.solid_tours.proofs.order.sort_edges.Goals as goal

pub put_edges-m-requires : goal.put_edges-m-requires
put_edges-m-requires c =
    record {
      fact_1 = c.requires.fact_1;
      fact_2 = c.requires.fact_2;
      fact_3 = c.requires.fact_3;
      fact_4 = c.requires.fact_4;
    }

pub offset_bounds-reals-keys : goal.offset_bounds-reals-keys
offset_bounds-reals-keys c = omega (arith, c.requires.fact_1.placed.laid, c.requires.fact_1.words_room, c.requires.fact_1.reals_room, c.put_edges-m.ensures.words_kept.long, c.put_edges-m.ensures.reals_kept.long)

pub slice_bounds-sort_items-count : goal.slice_bounds-sort_items-count
slice_bounds-sort_items-count c = omega (arith, c.requires.fact_1.placed.laid, c.requires.fact_1.words_room, c.requires.fact_1.reals_room, c.put_edges-m.ensures.words_kept.long, c.put_edges-m.ensures.reals_kept.long)

pub slice_bounds-sort_items-start : goal.slice_bounds-sort_items-start
slice_bounds-sort_items-start c = omega (arith, c.requires.fact_1.placed.laid, c.requires.fact_1.words_room, c.requires.fact_1.reals_room, c.put_edges-m.ensures.words_kept.long, c.put_edges-m.ensures.reals_kept.long)

pub slice_bounds-sort_items-end : goal.slice_bounds-sort_items-end
slice_bounds-sort_items-end c = omega (arith, c.requires.fact_1.placed.laid, c.requires.fact_1.words_room, c.requires.fact_1.reals_room, c.put_edges-m.ensures.words_kept.long, c.put_edges-m.ensures.reals_kept.long)

pub offset_bounds-words-sorted : goal.offset_bounds-words-sorted
offset_bounds-words-sorted c = omega (arith, c.requires.fact_1.placed.laid, c.requires.fact_1.words_room, c.requires.fact_1.reals_room, c.put_edges-m.ensures.words_kept.long, c.put_edges-m.ensures.reals_kept.long)

pub slice_bounds-sort_items-count-2 : goal.slice_bounds-sort_items-count-2
slice_bounds-sort_items-count-2 c = omega (arith, c.requires.fact_1.placed.laid, c.requires.fact_1.words_room, c.requires.fact_1.reals_room, c.put_edges-m.ensures.words_kept.long, c.put_edges-m.ensures.reals_kept.long)

pub slice_bounds-sort_items-start-2 : goal.slice_bounds-sort_items-start-2
slice_bounds-sort_items-start-2 c = omega (arith, c.requires.fact_1.placed.laid, c.requires.fact_1.words_room, c.requires.fact_1.reals_room, c.put_edges-m.ensures.words_kept.long, c.put_edges-m.ensures.reals_kept.long)

pub slice_bounds-sort_items-end-2 : goal.slice_bounds-sort_items-end-2
slice_bounds-sort_items-end-2 c = omega (arith, c.requires.fact_1.placed.laid, c.requires.fact_1.words_room, c.requires.fact_1.reals_room, c.put_edges-m.ensures.words_kept.long, c.put_edges-m.ensures.reals_kept.long)

pub sort_items-requires : goal.sort_items-requires
sort_items-requires c = let all = sort_room _ _ _ _ _ _ _ c.requires.fact_1 c.requires.fact_2 c.put_edges-m.ensures in record { fact_1 = all.0; fact_2 = all.1.0; fact_3 = all.1.1 }

pub shape_of-words : goal.shape_of-words
shape_of-words c = (sorted_put _ _ _ _ _ _ _ c.requires.fact_1 c.requires.fact_2 c.put_edges-m.ensures _ c.sort_items.ensures c.sort_items.auto.mem c.requires.fact_4).words_kept.long

pub shape_of-reals : goal.shape_of-reals
shape_of-reals c = c.put_edges-m.ensures.reals_kept.long

pub returns : goal.returns
returns c = sorted_put _ _ _ _ _ _ _ c.requires.fact_1 c.requires.fact_2 c.put_edges-m.ensures _ c.sort_items.ensures c.sort_items.auto.mem c.requires.fact_4
