-- `rule_machining::machining::corner_rule` meets its contract.
use native.Mathlib.Omega.{arith}
use Rattle.rule_machining.proofs.RuleLaws.{corners_found}
use Rattle.rule_corners.proofs.WalkLaws.{most}
use Rattle.rule_machining.proofs.machining.corner_rule.Goals as goal

pub order_corners-m-requires : goal.order_corners-m-requires
order_corners-m-requires c =
    record {
      fact_1 = c.requires.fact_1.standing;
      fact_2 = c.requires.fact_1.ranked;
      fact_3 = c.requires.fact_2.faces;
      fact_4 = c.requires.fact_4;
    }

pub put_sharp_corners-requires : goal.put_sharp_corners-requires
put_sharp_corners-requires c =
    record {
      fact_1 = c.order_corners-m.ensures.ordered;
      fact_2 = record { faces = c.requires.fact_2.faces; corners = c.order_corners-m.ensures.count };
      fact_3 = c.requires.fact_3;
    }

pub shape_of-words : goal.shape_of-words
shape_of-words c = c.order_corners-m.ensures.words_kept.long

pub shape_of-reals : goal.shape_of-reals
shape_of-reals c = c.order_corners-m.ensures.reals_kept.long

pub shape_of-cells : goal.shape_of-cells
shape_of-cells c = c.put_sharp_corners.ensures.flaws_put.cells_kept.long

pub shape_of-numbers : goal.shape_of-numbers
shape_of-numbers c = c.put_sharp_corners.ensures.flaws_put.numbers_kept.long

pub returns : goal.returns
returns c =
    record {
      fact_1 = corners_found _ _ _ _ _ _ _ c.requires.fact_1 c.order_corners-m.ensures _ _ _ _ _ _ c.put_sharp_corners.ensures.flaws_put;
      fact_2 = omega (arith, c.put_sharp_corners.ensures.upper_bound, c.order_corners-m.ensures.count, most _ _ _ _ c.order_corners-m.ensures.ordered);
    }
