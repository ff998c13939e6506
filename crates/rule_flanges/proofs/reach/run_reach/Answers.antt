-- `rule_flanges::reach::run_reach` meets its contract: the corners that are passed.
use Rattle.rule_flanges.proofs.ReachLaws.{reach_none, reach_more, reach_all}
use native.Mathlib.Omega.{arith}
use Rattle.rule_flanges.proofs.reach.run_reach.Goals as goal

pub loop-k-init : goal.loop-k-init
loop-k-init c = reach_none _ _ _ _ _

pub loop-k-preserved : goal.loop-k-preserved
loop-k-preserved c = reach_more _ _ _ _ _ _ _ _ _ _ c.loop-k.invariant c.vertex.ensures c.away.ensures c.max-reach.ensures

pub returns : goal.returns
returns c = reach_all _ _ _ _ _ _ _ _ (omega arith) c.loop-k-test.false c.loop-k.invariant
