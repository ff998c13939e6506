-- `rule_flanges::flanges::put_legs` meets its contract: the faults of the legs that are passed are put.
use Rattle.round_all.proofs.PutLaws.{face_low}
use Rattle.rule_flanges.proofs.LegLaws.{leg_there}
use Rattle.rule_flanges.proofs.FlangeLaws.{legs_put_none, legs_put_more, legs_put_all}
use native.Mathlib.Omega.{arith}
use Rattle.rule_flanges.proofs.flanges.put_legs.Goals as goal

pub loop-i-init : goal.loop-i-init
loop-i-init c = (legs_put_none _ _ _ _ _ _ _, omega arith)

pub leg_at-leg-requires : goal.leg_at-leg-requires
leg_at-leg-requires c = omega (arith, c.loop-i-test.true, c.requires.legs_there_1.room)

pub reach_of-reach-requires : goal.reach_of-reach-requires
reach_of-reach-requires c =
    record {
      fact_1 = c.requires.sheet_stands_1;
      fact_2 = leg_there _ _ _ _ _ c.requires.legs_there_1 c.loop-i-test.true c.leg_at-leg.ensures;
    }

pub put_flange-k-requires : goal.put_flange-k-requires
put_flange-k-requires c =
    record {
      fact_1 = omega (arith, c.loop-i.invariant.1, c.loop-i-test.true, c.requires.legs_there_2);
      fact_2 = omega (arith, face_low _ _ _ c.requires.sheet_stands_1.ordered.standing.placed c.requires.sheet_stands_3);
      fact_3 = omega (arith, face_low _ _ _ c.requires.sheet_stands_1.ordered.standing.placed (leg_there _ _ _ _ _ c.requires.legs_there_1 c.loop-i-test.true c.leg_at-leg.ensures).face);
    }

pub loop-i-preserved : goal.loop-i-preserved
loop-i-preserved c = (legs_put_more _ _ _ _ _ _ _ _ c.requires.legs_there_1 c.loop-i-test.true c.leg_at-leg.ensures c.reach_of-reach.ensures c.requires.sheet_stands_2 c.requires.sheet_stands_3 c.loop-i.invariant.0 c.put_flange-k.ensures, omega (arith, c.loop-i.invariant.1, c.put_flange-k.ensures.few))

pub shape_of-cells : goal.shape_of-cells
shape_of-cells c = c.loop-i.invariant.0.cells_kept.long

pub shape_of-numbers : goal.shape_of-numbers
shape_of-numbers c = c.loop-i.invariant.0.numbers_kept.long

pub returns : goal.returns
returns c =
    record {
      fact_1 = legs_put_all _ _ _ _ _ _ (omega arith) c.loop-i-test.false c.loop-i.invariant.0;
      fact_2 = omega (arith, c.loop-i.invariant.1);
    }
