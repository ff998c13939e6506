-- `sheet_thickness::middle_of` meets its contract.
use Rattle.sheet_thickness.proofs.DistanceLaws.{few}
use Rattle.sheet_thickness.proofs.MiddleLaws.{kept_pairs, middle_is, order_outside}
use native.Mathlib.Omega.{arith}
use Rattle.sheet_thickness.proofs.middle_of.Goals as goal

pub overflow_add-thickness_end : goal.overflow_add-thickness_end
overflow_add-thickness_end c =
    let h = c.requires in
    omega (arith, few _ _ _ _ h.standing_1 _ h.standing_3, h.standing_1.placed.laid, h.standing_1.reals_room, h.standing_1.words_room)

pub overflow_add-area_end : goal.overflow_add-area_end
overflow_add-area_end c =
    let h = c.requires in
    omega (arith, few _ _ _ _ h.standing_1 _ h.standing_3, h.standing_1.placed.laid, h.standing_1.reals_room, h.standing_1.words_room)

pub offset_bounds-reals-thickness : goal.offset_bounds-reals-thickness
offset_bounds-reals-thickness c =
    let h = c.requires in
    omega (arith, few _ _ _ _ h.standing_1 _ h.standing_3, h.standing_1.placed.laid, h.standing_1.reals_room, h.standing_1.words_room)

pub slice_bounds-sorted_middle-count : goal.slice_bounds-sorted_middle-count
slice_bounds-sorted_middle-count c =
    let h = c.requires in
    omega (arith, few _ _ _ _ h.standing_1 _ h.standing_3, h.standing_1.placed.laid, h.standing_1.reals_room, h.standing_1.words_room)

pub slice_bounds-sorted_middle-start : goal.slice_bounds-sorted_middle-start
slice_bounds-sorted_middle-start c =
    let h = c.requires in
    omega (arith, few _ _ _ _ h.standing_1 _ h.standing_3, h.standing_1.placed.laid, h.standing_1.reals_room, h.standing_1.words_room)

pub slice_bounds-sorted_middle-end : goal.slice_bounds-sorted_middle-end
slice_bounds-sorted_middle-end c =
    let h = c.requires in
    omega (arith, few _ _ _ _ h.standing_1 _ h.standing_3, h.standing_1.placed.laid, h.standing_1.reals_room, h.standing_1.words_room)

pub offset_bounds-reals-area : goal.offset_bounds-reals-area
offset_bounds-reals-area c =
    let h = c.requires in
    omega (arith, few _ _ _ _ h.standing_1 _ h.standing_3, h.standing_1.placed.laid, h.standing_1.reals_room, h.standing_1.words_room)

pub slice_bounds-sorted_middle-count-2 : goal.slice_bounds-sorted_middle-count-2
slice_bounds-sorted_middle-count-2 c =
    let h = c.requires in
    omega (arith, few _ _ _ _ h.standing_1 _ h.standing_3, h.standing_1.placed.laid, h.standing_1.reals_room, h.standing_1.words_room)

pub slice_bounds-sorted_middle-start-2 : goal.slice_bounds-sorted_middle-start-2
slice_bounds-sorted_middle-start-2 c =
    let h = c.requires in
    omega (arith, few _ _ _ _ h.standing_1 _ h.standing_3, h.standing_1.placed.laid, h.standing_1.reals_room, h.standing_1.words_room)

pub slice_bounds-sorted_middle-end-2 : goal.slice_bounds-sorted_middle-end-2
slice_bounds-sorted_middle-end-2 c =
    let h = c.requires in
    omega (arith, few _ _ _ _ h.standing_1 _ h.standing_3, h.standing_1.placed.laid, h.standing_1.reals_room, h.standing_1.words_room)

pub offset_bounds-words-order : goal.offset_bounds-words-order
offset_bounds-words-order c =
    let h = c.requires in
    omega (arith, few _ _ _ _ h.standing_1 _ h.standing_3, h.standing_1.placed.laid, h.standing_1.reals_room, h.standing_1.words_room)

pub slice_bounds-sorted_middle-count-3 : goal.slice_bounds-sorted_middle-count-3
slice_bounds-sorted_middle-count-3 c =
    let h = c.requires in
    omega (arith, few _ _ _ _ h.standing_1 _ h.standing_3, h.standing_1.placed.laid, h.standing_1.reals_room, h.standing_1.words_room)

pub slice_bounds-sorted_middle-start-3 : goal.slice_bounds-sorted_middle-start-3
slice_bounds-sorted_middle-start-3 c =
    let h = c.requires in
    omega (arith, few _ _ _ _ h.standing_1 _ h.standing_3, h.standing_1.placed.laid, h.standing_1.reals_room, h.standing_1.words_room)

pub slice_bounds-sorted_middle-end-3 : goal.slice_bounds-sorted_middle-end-3
slice_bounds-sorted_middle-end-3 c =
    let h = c.requires in
    omega (arith, few _ _ _ _ h.standing_1 _ h.standing_3, h.standing_1.placed.laid, h.standing_1.reals_room, h.standing_1.words_room)

pub sorted_middle-requires : goal.sorted_middle-requires
sorted_middle-requires c =
    let h = c.requires in
    record {
      fact_1 = kept_pairs _ _ _ _ _ _ h.standing_1 h.standing_2 h.standing_3 h.n_value_1 h.n_value_3;
      fact_2 = h.n_value_2;
    }

pub shape_of-words : goal.shape_of-words
shape_of-words c =
    let h = c.requires in
    (order_outside _ _ _ _ _ _ h.standing_1 h.standing_2 h.standing_3 h.n_value_1 h.n_value_3 _ _ h.n_value_2 c.sorted_middle.ensures).long

pub returns : goal.returns
returns c =
    let h = c.requires in
    record {
      fact_1 = middle_is _ _ _ _ _ _ h.standing_1 h.standing_2 h.standing_3 h.n_value_1 h.n_value_3 _ _ h.n_value_2 c.sorted_middle.ensures;
      fact_2 = order_outside _ _ _ _ _ _ h.standing_1 h.standing_2 h.standing_3 h.n_value_1 h.n_value_3 _ _ h.n_value_2 c.sorted_middle.ensures;
    }
