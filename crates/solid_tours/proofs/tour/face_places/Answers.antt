-- `solid_tours::tour::face_places` meets its contract: from its rank to the next.
use Rattle.solid_tours.proofs.PlaceLaws.{few, most, rank_room, rank_is, places_are}
use native.Mathlib.Omega.{arith}
use Rattle.solid_tours.proofs.tour.face_places.Goals as goal

pub overflow_add-at : goal.overflow_add-at
overflow_add-at c = omega (arith, rank_room _ _ _ _ c.requires.fact_1 c.args.f (omega (arith, c.requires.fact_3, c.requires.fact_2.faces)), c.requires.fact_1.standing.placed.laid, c.requires.fact_1.standing.words_room, c.requires.fact_1.standing.reals_room, most _ _ _ _ c.requires.fact_1, c.requires.fact_3, c.requires.fact_2.faces, few _ _ _ _ c.requires.fact_1)

pub cell-r-requires : goal.cell-r-requires
cell-r-requires c = rank_room _ _ _ _ c.requires.fact_1 _ (omega (arith, c.requires.fact_3, c.requires.fact_2.faces))

pub rank_start-requires : goal.rank_start-requires
rank_start-requires c =
    record {
      fact_1 = c.requires.fact_1;
      fact_2 = c.requires.fact_2;
      fact_3 = omega (arith, c.requires.fact_2.faces, (rank_is _ _ _ _ c.requires.fact_1 _ _ (omega (arith, c.requires.fact_3, c.requires.fact_2.faces)) c.cell-r.ensures).1);
    }

pub overflow_add-r : goal.overflow_add-r
overflow_add-r c = omega (arith, few _ _ _ _ c.requires.fact_1, (rank_is _ _ _ _ c.requires.fact_1 _ _ (omega (arith, c.requires.fact_3, c.requires.fact_2.faces)) c.cell-r.ensures).1)

pub rank_start-requires-2 : goal.rank_start-requires-2
rank_start-requires-2 c =
    record {
      fact_1 = c.requires.fact_1;
      fact_2 = c.requires.fact_2;
      fact_3 = omega (arith, c.requires.fact_2.faces, (rank_is _ _ _ _ c.requires.fact_1 _ _ (omega (arith, c.requires.fact_3, c.requires.fact_2.faces)) c.cell-r.ensures).1);
    }

pub returns : goal.returns
returns c = places_are _ _ _ _ c.requires.fact_1 _ (omega (arith, c.requires.fact_3, c.requires.fact_2.faces)) _ _ _ (rank_is _ _ _ _ c.requires.fact_1 _ _ (omega (arith, c.requires.fact_3, c.requires.fact_2.faces)) c.cell-r.ensures).0 c.rank_start.ensures c.rank_start-2.ensures
