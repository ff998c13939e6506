-- `rule_printing::printing::hole_rule` meets its contract: the rounds, then the faults.
use Rattle.rule_printing.proofs.RuleLaws.{holes_found}
use native.Mathlib.Omega.{arith}
use Rattle.rule_printing.proofs.printing.hole_rule.Goals as goal

pub put_rounds-requires : goal.put_rounds-requires
put_rounds-requires c =
    record {
      fact_1 = c.requires.fact_1.standing;
      fact_2 = c.requires.fact_2;
    }

pub put_small_holes-requires : goal.put_small_holes-requires
put_small_holes-requires c =
    record {
      fact_1 = c.put_rounds.ensures.rounds_2;
      fact_2 = c.put_rounds.ensures.rounds_1;
      fact_3 = c.requires.fact_2;
      fact_4 = omega (arith, c.requires.fact_3);
    }

pub shape_of-words : goal.shape_of-words
shape_of-words c = c.put_rounds.ensures.outside_1.long

pub shape_of-reals : goal.shape_of-reals
shape_of-reals c = c.put_rounds.ensures.outside_2.long

pub shape_of-cells : goal.shape_of-cells
shape_of-cells c = c.put_small_holes.ensures.fact_1.cells_kept.long

pub shape_of-numbers : goal.shape_of-numbers
shape_of-numbers c = c.put_small_holes.ensures.fact_1.numbers_kept.long

pub returns : goal.returns
returns c =
    record {
      fact_1 = holes_found _ _ c.requires.fact_1 c.put_rounds.ensures.rounds_2 c.put_rounds.ensures.outside_1 c.put_rounds.ensures.outside_2 c.put_small_holes.ensures.fact_1 c.put_small_holes.ensures.fact_2;
      fact_2 = c.put_rounds.ensures.rounds_1;
    }
