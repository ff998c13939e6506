-- `wall_starts::put_falling` meets its contract.
use Rattle.wall_starts.proofs.KeptLaws.{negated_none, negated_more, negated_all}
use Rattle.wall_starts.proofs.put_falling.Goals as goal

pub loop-k-init : goal.loop-k-init
loop-k-init c = negated_none _ _ _

pub loop-k-preserved : goal.loop-k-preserved
loop-k-preserved c =
    negated_more _ _ _ _ _ _ c.requires.fact_1 c.requires.fact_2 c.loop-k-test.true c.loop-k.invariant

pub returns : goal.returns
returns c = negated_all _ _ _ _ _ _ c.loop-k.auto.k-end c.loop-k-test.false c.loop-k.invariant
