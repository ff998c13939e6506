-- `sheet_thickness::measure` meets its contract: one step after the other.
use Rattle.sheet_thickness.proofs.MeasureLaws.{rough_ordered, rough_read, kept_room, areas_room, middle_asks, none_measured, measured}
use Rattle.sheet_thickness.proofs.measure.Goals as goal

pub rough-limit-requires : goal.rough-limit-requires
rough-limit-requires c =
    let h = c.requires in
    record {
      fact_1 = h.edges_ordered_1.standing;
      fact_2 = h.edges_ordered_2;
      fact_3 = h.counted_2;
    }

pub put_distances-requires : goal.put_distances-requires
put_distances-requires c =
    let h = c.requires in
    record {
      edges_ordered_1 = rough_ordered _ _ _ _ _ h.edges_ordered_1 h.edges_ordered_2 h.counted_2 _ c.rough-limit.ensures.fact_2;
      edges_ordered_2 = rough_read _ _ _ _ _ h.edges_ordered_1 h.edges_ordered_2 h.counted_2 _ c.rough-limit.ensures.fact_2;
      counted_1 = h.counted_1;
      counted_2 = h.counted_2;
    }

pub put_kept-n-requires : goal.put_kept-n-requires
put_kept-n-requires c =
    let h = c.requires in let all = kept_room _ _ _ _ _ h.edges_ordered_1 h.edges_ordered_2 h.counted_2 _ c.rough-limit.ensures.fact_2 _ c.rough-limit.ensures.fact_1 _ c.put_distances.ensures in record { fact_1 = all.0; fact_2 = all.1.0; fact_3 = all.1.1 }

pub returns-then-n-eq0 : goal.returns-then-n-eq0
returns-then-n-eq0 c =
    let h = c.requires in
    none_measured _ _ _ _ _ h.edges_ordered_1 h.edges_ordered_2 h.counted_2 _ c.rough-limit.ensures.fact_2 _ c.rough-limit.ensures.fact_1 _ c.put_distances.ensures _ _ c.put_kept-n.ensures c.if-n-eq0.true

pub middle_of-middle-requires : goal.middle_of-middle-requires
middle_of-middle-requires c =
    let h = c.requires in let all = middle_asks _ _ _ _ _ h.edges_ordered_1 h.edges_ordered_2 h.counted_2 _ c.rough-limit.ensures.fact_2 _ c.rough-limit.ensures.fact_1 _ c.put_distances.ensures _ _ c.put_kept-n.ensures c.if-n-eq0.false in record { standing_1 = all.0; standing_2 = all.1.0; standing_3 = all.1.1.0; n_value_1 = all.1.1.1.0; n_value_2 = all.1.1.1.1.0; n_value_3 = all.1.1.1.1.1 }

pub off_area-off-requires : goal.off_area-off-requires
off_area-off-requires c =
    let h = c.requires in let all = areas_room _ _ _ _ _ h.edges_ordered_1 h.edges_ordered_2 h.counted_2 _ c.rough-limit.ensures.fact_2 _ c.rough-limit.ensures.fact_1 _ c.put_distances.ensures in record { fact_1 = all.0; fact_2 = all.1.0; fact_3 = all.1.1 }

pub returns : goal.returns
returns c =
    let h = c.requires in
    measured _ _ _ _ _ h.edges_ordered_1 h.edges_ordered_2 h.counted_2 _ c.rough-limit.ensures.fact_2 _ c.rough-limit.ensures.fact_1 _ c.put_distances.ensures _ _ c.put_kept-n.ensures
    _ _ c.middle_of-middle.ensures.fact_1 c.middle_of-middle.ensures.fact_2 _ c.off_area-off.ensures c.if-n-eq0.false
