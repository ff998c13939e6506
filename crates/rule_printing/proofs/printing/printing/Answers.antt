-- `rule_printing::printing::printing` meets its contract: one rule after the other.
use Rattle.rule_printing.proofs.RuleLaws.{words_all, reals_all, cells_all, numbers_all, printing_put}
use native.Mathlib.Omega.{arith}
use Rattle.rule_printing.proofs.printing.printing.Goals as goal

pub upright_of-upright-requires : goal.upright_of-upright-requires
upright_of-upright-requires c = c.requires.standing_1.placed.checked

pub put_not_closed-requires : goal.put_not_closed-requires
put_not_closed-requires c =
    record {
      fact_1 = c.requires.standing_1;
      fact_2 = c.requires.segments_value_1;
      fact_3 = omega (arith, c.requires.standing_2, c.requires.standing_3);
    }

pub wall_rule-walls-requires : goal.wall_rule-walls-requires
wall_rule-walls-requires c =
    record {
      fact_1 = c.requires.standing_1;
      fact_2 = c.requires.standing_2;
      fact_3 = c.put_not_closed.ensures.fact_2;
    }

pub hole_rule-holes-requires : goal.hole_rule-holes-requires
hole_rule-holes-requires c =
    record {
      fact_1 = c.wall_rule-walls.ensures.ready;
      fact_2 = c.requires.standing_2;
      fact_3 = omega (arith, c.put_not_closed.ensures.fact_2, c.wall_rule-walls.ensures.few);
    }

pub overhang_rule-over-requires : goal.overhang_rule-over-requires
overhang_rule-over-requires c =
    record {
      ready_1 = c.hole_rule-holes.ensures.fact_1.ready;
      ready_2 = c.hole_rule-holes.ensures.fact_2;
      ready_3 = c.requires.standing_2;
      faces_nonzero_1 = c.requires.standing_3;
      faces_nonzero_2 = omega (arith, c.put_not_closed.ensures.fact_2, c.wall_rule-walls.ensures.few, c.hole_rule-holes.ensures.fact_1.few);
      faces_nonzero_3 = c.upright_of-upright.ensures;
    }

pub hollow_rule-requires : goal.hollow_rule-requires
hollow_rule-requires c =
    record {
      fact_1 = c.overhang_rule-over.ensures.fact_1.ready.standing;
      fact_2 = omega (arith, c.put_not_closed.ensures.fact_2, c.wall_rule-walls.ensures.few, c.hole_rule-holes.ensures.fact_1.few, c.overhang_rule-over.ensures.fact_1.few);
      fact_3 = c.requires.segments_value_2;
    }

pub shape_of-words : goal.shape_of-words
shape_of-words c = (words_all _ _ c.wall_rule-walls.ensures c.hole_rule-holes.ensures.fact_1 c.overhang_rule-over.ensures.fact_1).long

pub shape_of-reals : goal.shape_of-reals
shape_of-reals c = (reals_all _ _ c.wall_rule-walls.ensures c.hole_rule-holes.ensures.fact_1 c.overhang_rule-over.ensures.fact_1).long

pub shape_of-cells : goal.shape_of-cells
shape_of-cells c = cells_all _ _ c.wall_rule-walls.ensures c.hole_rule-holes.ensures.fact_1 c.overhang_rule-over.ensures.fact_1 c.put_not_closed.ensures.fact_1 c.hollow_rule.ensures.fact_1

pub shape_of-numbers : goal.shape_of-numbers
shape_of-numbers c = numbers_all _ _ c.wall_rule-walls.ensures c.hole_rule-holes.ensures.fact_1 c.overhang_rule-over.ensures.fact_1 c.put_not_closed.ensures.fact_1 c.hollow_rule.ensures.fact_1

pub returns : goal.returns
returns c = printing_put _ _ c.wall_rule-walls.ensures c.hole_rule-holes.ensures.fact_1 c.overhang_rule-over.ensures.fact_1 c.put_not_closed.ensures.fact_1 c.hollow_rule.ensures.fact_1 c.put_not_closed.ensures.fact_2 _ c.upright_of-upright.ensures c.hollow_rule.ensures.fact_2 c.overhang_rule-over.ensures.fact_2 _ c.print.ensures
