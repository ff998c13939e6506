-- `rule_corners::corner::put_corner` meets its contract: none or one more.
use Rattle.rule_corners.proofs.CornerLaws.{put_one, put_none, found_is, found_none, found_below}
use native.Mathlib.Omega.{arith}
use Rattle.rule_corners.proofs.corner.put_corner.Goals as goal

pub find-requires : goal.find-requires
find-requires c =
    record {
      fact_1 = c.requires.standing_1;
      fact_2 = c.requires.side_lt_vertices_1;
      fact_3 = c.requires.side_lt_vertices_3;
    }

pub pair_of-pair-requires : goal.pair_of-pair-requires
pair_of-pair-requires c =
    record {
      placed_1 = c.requires.standing_1.placed;
      placed_2 = c.requires.standing_1.words_room;
      placed_3 = c.requires.standing_2;
      n_value_1 = c.requires.standing_3;
      n_value_2 = (found_below _ _ _ _ c.requires.standing_1 _ _ _ c.requires.standing_3 c.requires.side_lt_vertices_1 (found_is _ _ _ _ c.find.ensures c.in-Some.is)).0;
      n_value_3 = (found_below _ _ _ _ c.requires.standing_1 _ _ _ c.requires.standing_3 c.requires.side_lt_vertices_1 (found_is _ _ _ _ c.find.ensures c.in-Some.is)).1;
    }

pub overflow_cast-words : goal.overflow_cast-words
overflow_cast-words c = omega (arith, c.requires.standing_1.placed.laid, c.requires.standing_1.words_room, c.requires.standing_1.reals_room, c.requires.side_lt_vertices_1, c.requires.side_lt_vertices_2)

pub overflow_add-words : goal.overflow_add-words
overflow_add-words c = omega (arith, c.requires.standing_1.placed.laid, c.requires.standing_1.words_room, c.requires.standing_1.reals_room, c.requires.side_lt_vertices_1, c.requires.side_lt_vertices_2)

pub offset_bounds-words-at : goal.offset_bounds-words-at
offset_bounds-words-at c = omega (arith, c.requires.standing_1.placed.laid, c.requires.standing_1.words_room, c.requires.standing_1.reals_room, c.requires.side_lt_vertices_1, c.requires.side_lt_vertices_2)

pub bounds-words-at : goal.bounds-words-at
bounds-words-at c = omega (arith, c.requires.standing_1.placed.laid, c.requires.standing_1.words_room, c.requires.standing_1.reals_room, c.requires.side_lt_vertices_1, c.requires.side_lt_vertices_2)

pub overflow_add-reals : goal.overflow_add-reals
overflow_add-reals c = omega (arith, c.requires.standing_1.placed.laid, c.requires.standing_1.words_room, c.requires.standing_1.reals_room, c.requires.side_lt_vertices_1, c.requires.side_lt_vertices_2)

pub offset_bounds-reals-at : goal.offset_bounds-reals-at
offset_bounds-reals-at c = omega (arith, c.requires.standing_1.placed.laid, c.requires.standing_1.words_room, c.requires.standing_1.reals_room, c.requires.side_lt_vertices_1, c.requires.side_lt_vertices_2)

pub bounds-reals-at : goal.bounds-reals-at
bounds-reals-at c = omega (arith, c.requires.standing_1.placed.laid, c.requires.standing_1.words_room, c.requires.standing_1.reals_room, c.requires.side_lt_vertices_1, c.requires.side_lt_vertices_2)

pub overflow_add-result : goal.overflow_add-result
overflow_add-result c = omega (arith, c.requires.standing_1.placed.laid, c.requires.standing_1.words_room, c.requires.standing_1.reals_room, c.requires.side_lt_vertices_1, c.requires.side_lt_vertices_2)

pub returns : goal.returns
returns c = put_one _ _ _ _ _ _ _ _ (found_is _ _ _ _ c.find.ensures c.in-Some.is) c.pair_of-pair.ensures c.requires.standing_1.placed.laid c.requires.standing_1.words_room c.requires.standing_1.reals_room c.requires.side_lt_vertices_1 c.requires.side_lt_vertices_2

pub returns-in_default : goal.returns-in_default
returns-in_default c = put_none _ _ _ _ _ _ (found_none _ _ _ c.find.ensures c.in_default.is)
