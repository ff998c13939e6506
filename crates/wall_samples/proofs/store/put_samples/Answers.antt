-- `wall_samples::store::put_samples` meets its contract.
use Rattle.wall_samples.proofs.FaceLaws.{totals_room, total_is, none_put, ready, all_put}
use Rattle.wall_samples.proofs.store.put_samples.Goals as goal

pub total_area-total-requires : goal.total_area-total-requires
total_area-total-requires c =
    totals_room _ _ _ _ c.requires.fact_1 _ c.requires.fact_2

pub returns-then-total : goal.returns-then-total
returns-then-total c =
    let put = none_put _ _ _ _ c.requires.fact_1 _ c.requires.fact_2 _ c.total_area-total.ensures c.if-total.true in
    record {
      value_1 = put.count;
      value_2 = put.readings;
      standing = put.standing;
      outside_1 = put.words_kept;
      outside_2 = put.reals_kept;
    }

pub put_faces-requires : goal.put_faces-requires
put_faces-requires c =
    record {
      fact_1 = ready _ _ _ _ c.requires.fact_1 _ c.requires.fact_2 _ c.total_area-total.ensures _ c.put_falling.ensures;
      fact_2 = c.requires.fact_2;
      fact_3 = total_is _ _ _ _ c.requires.fact_1 _ c.requires.fact_2 _ c.total_area-total.ensures;
    }

pub returns : goal.returns
returns c =
    let put = all_put _ _ _ _ c.requires.fact_1 _ c.requires.fact_2 _ c.total_area-total.ensures _ c.put_falling.ensures _ _ _ c.if-total.false c.put_faces.ensures in
    record {
      value_1 = put.count;
      value_2 = put.readings;
      standing = put.standing;
      outside_1 = put.words_kept;
      outside_2 = put.reals_kept;
    }
