-- `rule_machining::machining::round_rule` meets its contract.
use Rattle.rule_machining.proofs.RuleLaws.{rounds_found}
use Rattle.rule_machining.proofs.machining.round_rule.Goals as goal

pub put_rounds-requires : goal.put_rounds-requires
put_rounds-requires c =
    record {
      fact_1 = c.requires.fact_1.standing;
      fact_2 = c.requires.fact_2.faces;
    }

pub put_round_faults-requires : goal.put_round_faults-requires
put_round_faults-requires c =
    record {
      standing_1 = c.put_rounds.ensures.rounds_2;
      standing_2 = c.put_rounds.ensures.rounds_1;
      counted_1 = c.requires.fact_2;
      counted_2 = c.requires.fact_3;
    }

pub shape_of-words : goal.shape_of-words
shape_of-words c = c.put_rounds.ensures.outside_1.long

pub shape_of-reals : goal.shape_of-reals
shape_of-reals c = c.put_rounds.ensures.outside_2.long

pub shape_of-cells : goal.shape_of-cells
shape_of-cells c = c.put_round_faults.ensures.fact_1.cells_kept.long

pub shape_of-numbers : goal.shape_of-numbers
shape_of-numbers c = c.put_round_faults.ensures.fact_1.numbers_kept.long

pub returns : goal.returns
returns c =
    record {
      fact_1 = rounds_found _ _ _ _ _ _ c.requires.fact_1 c.put_rounds.ensures.rounds_2 c.put_rounds.ensures.outside_1 c.put_rounds.ensures.outside_2 _ _ _ _ _ _ c.put_round_faults.ensures.fact_1;
      fact_2 = c.put_round_faults.ensures.fact_2;
    }
