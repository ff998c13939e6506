-- `rule_machining::machining::wall_rule` meets its contract: readings, ranks, the sort, then the faults.
use native.Mathlib.Omega.{arith}
use Rattle.rule_machining.proofs.RuleLaws.{readings_there, walls_words, walls_reals, walls_found}
use Rattle.rule_machining.proofs.machining.wall_rule.Goals as goal

pub put_samples-m-requires : goal.put_samples-m-requires
put_samples-m-requires c =
    record {
      fact_1 = c.requires.fact_1;
      fact_2 = c.requires.fact_2;
    }

pub put_ranks-requires : goal.put_ranks-requires
put_ranks-requires c =
    record {
      fact_1 = c.put_samples-m.ensures.standing;
      fact_2 = c.requires.fact_2;
    }

pub order_walls-requires : goal.order_walls-requires
order_walls-requires c =
    record {
      standing_1 = c.put_ranks.ensures.standing;
      standing_2 = readings_there _ _ _ _ _ _ _ _ c.requires.fact_1 c.put_samples-m.ensures.value_2 c.put_samples-m.ensures.standing c.put_samples-m.ensures.outside_1 c.put_samples-m.ensures.outside_2 c.put_ranks.ensures;
      ranked_1 = c.put_ranks.ensures.ranked;
      ranked_2 = record { faces = c.requires.fact_2; readings = c.put_samples-m.ensures.value_1 };
    }

pub put_thin_walls-requires : goal.put_thin_walls-requires
put_thin_walls-requires c =
    record {
      fact_1 = c.order_walls.ensures.ordered;
      fact_2 = record { faces = c.requires.fact_2; readings = c.put_samples-m.ensures.value_1 };
      fact_3 = omega arith;
    }

pub shape_of-words : goal.shape_of-words
shape_of-words c = (walls_words _ _ _ _ _ _ _ _ c.requires.fact_1 c.put_samples-m.ensures.value_2 c.put_samples-m.ensures.standing c.put_samples-m.ensures.outside_1 c.put_samples-m.ensures.outside_2 c.put_ranks.ensures _ _ c.order_walls.ensures).long

pub shape_of-reals : goal.shape_of-reals
shape_of-reals c = (walls_reals _ _ _ _ _ _ _ _ c.requires.fact_1 c.put_samples-m.ensures.value_2 c.put_samples-m.ensures.standing c.put_samples-m.ensures.outside_1 c.put_samples-m.ensures.outside_2 c.put_ranks.ensures _ _ c.order_walls.ensures).long

pub shape_of-cells : goal.shape_of-cells
shape_of-cells c = c.put_thin_walls.ensures.fact_1.cells_kept.long

pub shape_of-numbers : goal.shape_of-numbers
shape_of-numbers c = c.put_thin_walls.ensures.fact_1.numbers_kept.long

pub returns : goal.returns
returns c = walls_found _ _ _ _ _ _ _ _ c.requires.fact_1 c.put_samples-m.ensures.value_2 c.put_samples-m.ensures.standing c.put_samples-m.ensures.outside_1 c.put_samples-m.ensures.outside_2 c.put_ranks.ensures _ _ c.order_walls.ensures _ _ _ _ _ _ c.put_samples-m.ensures.value_1 c.put_thin_walls.ensures.fact_1 c.put_thin_walls.ensures.fact_2
