-- `rule_machining::machining::machining` meets its contract: one rule after the other.
use native.Mathlib.Omega.{arith}
use Rattle.rule_machining.proofs.RuleLaws.{all_found}
use Rattle.solid_faces.proofs.BodyLaws.{checked_faces}
use Rattle.rule_machining.proofs.machining.machining.Goals as goal

pub wall_rule-w-requires : goal.wall_rule-w-requires
wall_rule-w-requires c =
    record {
      fact_1 = c.requires.fact_1;
      fact_2 = c.requires.fact_2;
    }

pub round_rule-k-requires : goal.round_rule-k-requires
round_rule-k-requires c =
    record {
      fact_1 = c.wall_rule-w.ensures.rule.ready;
      fact_2 = record { faces = c.requires.fact_2; readings = c.wall_rule-w.ensures.readings };
      fact_3 = omega (arith, c.wall_rule-w.ensures.few);
    }

pub corner_rule-requires : goal.corner_rule-requires
corner_rule-requires c =
    record {
      fact_1 = c.round_rule-k.ensures.fact_1.ready;
      fact_2 = record { faces = c.requires.fact_2; readings = c.wall_rule-w.ensures.readings };
      fact_3 = omega (arith, c.wall_rule-w.ensures.few, c.round_rule-k.ensures.fact_2, checked_faces _ c.requires.fact_1.placed.checked);
      fact_4 = c.requires.fact_3;
    }

pub shape_of-words : goal.shape_of-words
shape_of-words c = (all_found _ _ _ _ _ _ _ _ _ _ _ _ _ _ _ _ _ _ _ _ _ c.wall_rule-w.ensures.rule c.round_rule-k.ensures.fact_1 c.corner_rule.ensures.fact_1 (omega (arith, c.wall_rule-w.ensures.few, c.round_rule-k.ensures.fact_2, c.corner_rule.ensures.fact_2, checked_faces _ c.requires.fact_1.placed.checked, c.requires.fact_1.placed.laid))).words_kept.long

pub shape_of-reals : goal.shape_of-reals
shape_of-reals c = (all_found _ _ _ _ _ _ _ _ _ _ _ _ _ _ _ _ _ _ _ _ _ c.wall_rule-w.ensures.rule c.round_rule-k.ensures.fact_1 c.corner_rule.ensures.fact_1 (omega (arith, c.wall_rule-w.ensures.few, c.round_rule-k.ensures.fact_2, c.corner_rule.ensures.fact_2, checked_faces _ c.requires.fact_1.placed.checked, c.requires.fact_1.placed.laid))).reals_kept.long

pub shape_of-cells : goal.shape_of-cells
shape_of-cells c = (all_found _ _ _ _ _ _ _ _ _ _ _ _ _ _ _ _ _ _ _ _ _ c.wall_rule-w.ensures.rule c.round_rule-k.ensures.fact_1 c.corner_rule.ensures.fact_1 (omega (arith, c.wall_rule-w.ensures.few, c.round_rule-k.ensures.fact_2, c.corner_rule.ensures.fact_2, checked_faces _ c.requires.fact_1.placed.checked, c.requires.fact_1.placed.laid))).put.cells_kept.long

pub shape_of-numbers : goal.shape_of-numbers
shape_of-numbers c = (all_found _ _ _ _ _ _ _ _ _ _ _ _ _ _ _ _ _ _ _ _ _ c.wall_rule-w.ensures.rule c.round_rule-k.ensures.fact_1 c.corner_rule.ensures.fact_1 (omega (arith, c.wall_rule-w.ensures.few, c.round_rule-k.ensures.fact_2, c.corner_rule.ensures.fact_2, checked_faces _ c.requires.fact_1.placed.checked, c.requires.fact_1.placed.laid))).put.numbers_kept.long

pub returns : goal.returns
returns c = all_found _ _ _ _ _ _ _ _ _ _ _ _ _ _ _ _ _ _ _ _ _ c.wall_rule-w.ensures.rule c.round_rule-k.ensures.fact_1 c.corner_rule.ensures.fact_1 (omega (arith, c.wall_rule-w.ensures.few, c.round_rule-k.ensures.fact_2, c.corner_rule.ensures.fact_2, checked_faces _ c.requires.fact_1.placed.checked, c.requires.fact_1.placed.laid))
