-- `wall_samples::store::put_pick` meets its contract.
use Rattle.wall_samples.proofs.CastLaws.{hit_at}
use Rattle.wall_samples.proofs.TurnLaws.{pick_put, pick_none}
use Rattle.wall_samples.proofs.store.put_pick.Goals as goal

pub put_reading-requires : goal.put_reading-requires
put_reading-requires c =
    let h = c.requires.fact_1 in
    record {
      laid_1 = h.placed.laid;
      laid_2 = h.words_room;
      laid_3 = h.reals_room;
      k_lt_polygons_1 = c.requires.fact_2;
      k_lt_polygons_2 = c.requires.fact_3;
      k_lt_polygons_3 = hit_at _ _ _ c.reading_from-found.ensures.hit_below c.in-Some.is;
    }

pub returns-in-Some : goal.returns-in-Some
returns-in-Some c =
    pick_put _ _ _ _ _ c.reading_from-found.ensures.value _ _ _ _ _ c.requires.fact_1 c.requires.fact_2 c.requires.fact_3 c.in-Some.is c.put_reading.ensures.words_after c.put_reading.ensures.reals_after

pub returns-in-None : goal.returns-in-None
returns-in-None c = pick_none _ _ _ _ _ c.reading_from-found.ensures.value _ _ c.in-None.is
