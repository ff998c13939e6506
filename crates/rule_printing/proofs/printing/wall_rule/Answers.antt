-- `rule_printing::printing::wall_rule` meets its contract: ranks, readings, the sort, then the faults.
use Rattle.rule_printing.proofs.RuleLaws.{ranked_still, walls_words, walls_reals, walls_found}
use native.Mathlib.Omega.{arith}
use Rattle.rule_printing.proofs.printing.wall_rule.Goals as goal

pub put_ranks-requires : goal.put_ranks-requires
put_ranks-requires c =
    record {
      fact_1 = c.requires.fact_1;
      fact_2 = c.requires.fact_2;
    }

pub put_samples-m-requires : goal.put_samples-m-requires
put_samples-m-requires c =
    record {
      fact_1 = c.put_ranks.ensures.standing;
      fact_2 = c.requires.fact_2;
    }

pub order_walls-requires : goal.order_walls-requires
order_walls-requires c =
    record {
      standing_1 = c.put_samples-m.ensures.standing;
      standing_2 = c.put_samples-m.ensures.value_2;
      ranked_1 = ranked_still _ _ _ _ _ _ _ _ c.requires.fact_1 c.put_ranks.ensures c.put_samples-m.ensures.outside_1 c.put_samples-m.ensures.outside_2;
      ranked_2 = record { faces = c.requires.fact_2; readings = c.put_samples-m.ensures.value_1 };
    }

pub put_print_walls-requires : goal.put_print_walls-requires
put_print_walls-requires c =
    record {
      fact_1 = c.order_walls.ensures.ordered;
      fact_2 = record { faces = c.requires.fact_2; readings = c.put_samples-m.ensures.value_1 };
      fact_3 = omega (arith, c.requires.fact_3);
    }

pub shape_of-words : goal.shape_of-words
shape_of-words c = (walls_words _ _ _ _ _ _ _ _ c.requires.fact_1 c.put_ranks.ensures c.put_samples-m.ensures.outside_1 c.put_samples-m.ensures.outside_2 _ _ c.order_walls.ensures).long

pub shape_of-reals : goal.shape_of-reals
shape_of-reals c = (walls_reals _ _ _ _ _ _ _ _ c.requires.fact_1 c.put_ranks.ensures c.put_samples-m.ensures.outside_1 c.put_samples-m.ensures.outside_2 _ _ c.order_walls.ensures).long

pub shape_of-cells : goal.shape_of-cells
shape_of-cells c = c.put_print_walls.ensures.fact_1.cells_kept.long

pub shape_of-numbers : goal.shape_of-numbers
shape_of-numbers c = c.put_print_walls.ensures.fact_1.numbers_kept.long

pub returns : goal.returns
returns c = walls_found _ _ _ _ _ _ _ _ c.requires.fact_1 c.put_ranks.ensures c.put_samples-m.ensures.outside_1 c.put_samples-m.ensures.outside_2 _ _ c.order_walls.ensures c.put_print_walls.ensures.fact_1 c.put_print_walls.ensures.fact_2
