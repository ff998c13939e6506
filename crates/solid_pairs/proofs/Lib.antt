-- The laws on pairs of faces. Other crates cite these:
-- PairLaws
--   lower_below, higher_below           the faces of a pair are faces of the part
--   pair_key_lem, pairs_sorted              from what `pair_of` gives to the keys, and from the sorted keys to `PairsSorted`
--   item_below, group_below             what stands at a place, and in a group, is an item
--   pairs-start, next_pair, pairs-end   a walk over the sorted items: nothing yet, one pair more, and at the end `over_face_pairs`
-- PairOfLaws: the steps of `pair_of`
pub mod PairLaws
pub mod PairOfLaws
