-- `rule_printing::closed::put_not_closed` meets its contract: the keys are counted, then the fault.
use Rattle.rule_printing.proofs.ClosedLaws.{not_closed_put}
use Rattle.rule_printing.proofs.closed.put_not_closed.Goals as goal

pub open_keys-keys-requires : goal.open_keys-keys-requires
open_keys-keys-requires c =
    record {
      fact_1 = c.requires.fact_1;
      fact_2 = c.requires.fact_2;
    }

pub put_open-requires : goal.put_open-requires
put_open-requires c = c.open_keys-keys.ensures.fact_2

pub shape_of-cells : goal.shape_of-cells
shape_of-cells c = (not_closed_put _ c.requires.fact_3 c.open_keys-keys.ensures.fact_1 c.put_open.ensures).cells_kept.long

pub shape_of-numbers : goal.shape_of-numbers
shape_of-numbers c = (not_closed_put _ c.requires.fact_3 c.open_keys-keys.ensures.fact_1 c.put_open.ensures).numbers_kept.long

pub returns : goal.returns
returns c =
    record {
      fact_1 = not_closed_put _ c.requires.fact_3 c.open_keys-keys.ensures.fact_1 c.put_open.ensures;
      fact_2 = c.put_open.ensures.few;
    }
