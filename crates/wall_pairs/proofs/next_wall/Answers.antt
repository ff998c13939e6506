-- `wall_pairs::next_wall` meets its contract.
use native.Mathlib.Omega.{arith}
use Rattle.wall_pairs.proofs.StepLaws.{ready, keys_inside, order_inside, order_numbered, place_room, place_below, next_is}
use Rattle.wall_pairs.proofs.next_wall.Goals as goal

pub slice_bounds-group_end-end : goal.slice_bounds-group_end-end
slice_bounds-group_end-end c =
    let h = c.requires in
    keys_inside _ _ _ _ h.fact_1

pub slice_bounds-group_end-end-2 : goal.slice_bounds-group_end-end-2
slice_bounds-group_end-end-2 c =
    let h = c.requires in
    order_inside _ _ _ _ h.fact_1

pub group_end-end-requires : goal.group_end-end-requires
group_end-end-requires c =
    let h = c.requires in
    record {
      fact_1 = h.fact_3;
      fact_2 = (order_numbered _ _ _ _ h.fact_1 _ h.fact_2.readings).0;
      fact_3 = (order_numbered _ _ _ _ h.fact_1 _ h.fact_2.readings).1;
    }

pub overflow_add-at : goal.overflow_add-at
overflow_add-at c =
    let h = c.requires in
    omega (arith, place_room _ _ _ _ h.fact_1 c.args.i (omega (arith, h.fact_3, h.fact_2.readings)))

pub cell-requires : goal.cell-requires
cell-requires c =
    let h = c.requires in
    place_room _ _ _ _ h.fact_1 _ (omega (arith, h.fact_3, h.fact_2.readings))

pub reading_pair-pair-requires : goal.reading_pair-pair-requires
reading_pair-pair-requires c =
    let h = c.requires in
    record {
      fact_1 = ready _ _ _ _ h.fact_1;
      fact_2 = h.fact_2.faces;
      fact_3 = place_below _ _ _ _ h.fact_1 _ _ (omega (arith, h.fact_3, h.fact_2.readings)) c.cell.ensures;
    }

pub returns : goal.returns
returns c =
    let h = c.requires in
    next_is _ _ _ _ h.fact_1 _ _ _ _ _ h.fact_2.readings c.group_end-end.ensures c.cell.ensures c.reading_pair-pair.ensures
