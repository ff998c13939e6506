-- `rule_sheet::ready::make_ready` meets its contract: one after the other.
use Rattle.rule_sheet.proofs.ReadyLaws.{ranked_still, words_all, reals_all, ready_put}
use Rattle.rule_sheet.proofs.ready.make_ready.Goals as goal

pub put_samples-m-requires : goal.put_samples-m-requires
put_samples-m-requires c =
    record {
      fact_1 = c.requires.fact_1;
      fact_2 = c.requires.fact_3;
    }

pub put_rounds-requires : goal.put_rounds-requires
put_rounds-requires c =
    record {
      fact_1 = c.put_samples-m.ensures.standing;
      fact_2 = c.requires.fact_3;
    }

pub order_edges-requires : goal.order_edges-requires
order_edges-requires c =
    record {
      fact_1 = c.put_rounds.ensures.rounds_2;
      fact_2 = ranked_still _ _ _ _ _ _ _ _ c.requires.fact_1 c.requires.fact_2 c.put_samples-m.ensures.value_2 c.put_samples-m.ensures.outside_1 c.put_samples-m.ensures.outside_2 c.put_rounds.ensures.rounds_1 c.put_rounds.ensures.rounds_2 c.put_rounds.ensures.outside_1 c.put_rounds.ensures.outside_2;
      fact_3 = c.requires.fact_3;
      fact_4 = c.requires.fact_4;
    }

pub shape_of-words : goal.shape_of-words
shape_of-words c = (words_all _ _ _ _ _ _ _ _ c.requires.fact_1 c.requires.fact_2 c.put_samples-m.ensures.value_2 c.put_samples-m.ensures.outside_1 c.put_samples-m.ensures.outside_2 c.put_rounds.ensures.rounds_1 c.put_rounds.ensures.rounds_2 c.put_rounds.ensures.outside_1 c.put_rounds.ensures.outside_2 _ _ _ c.order_edges.ensures).long

pub shape_of-reals : goal.shape_of-reals
shape_of-reals c = (reals_all _ _ _ _ _ _ _ _ c.requires.fact_1 c.requires.fact_2 c.put_samples-m.ensures.value_2 c.put_samples-m.ensures.outside_1 c.put_samples-m.ensures.outside_2 c.put_rounds.ensures.rounds_1 c.put_rounds.ensures.rounds_2 c.put_rounds.ensures.outside_1 c.put_rounds.ensures.outside_2 _ _ _ c.order_edges.ensures).long

pub returns : goal.returns
returns c = ready_put _ _ _ _ _ _ _ _ c.requires.fact_1 c.requires.fact_2 c.put_samples-m.ensures.value_2 c.put_samples-m.ensures.outside_1 c.put_samples-m.ensures.outside_2 c.put_rounds.ensures.rounds_1 c.put_rounds.ensures.rounds_2 c.put_rounds.ensures.outside_1 c.put_rounds.ensures.outside_2 _ _ _ c.order_edges.ensures _ c.put_samples-m.ensures.value_1
