-- `list_median::reached` meets its contract.
use Rattle.list_median.proofs.MedianLaws.{weight_none, weight_more, not_reached_none, not_reached_more, reached_here, reached_none}
use Rattle.list_median.proofs.reached.Goals as goal

pub loop-k-init : goal.loop-k-init
loop-k-init c = (weight_none _ _, not_reached_none _ _ _)

pub returns-then-acc-bound : goal.returns-then-acc-bound
returns-then-acc-bound c =
    let inv = c.loop-k.invariant in
    reached_here _ _ _ _ _ _ c.loop-k-test.true (weight_more _ _ _ _ _ inv.0 c.of_pair-acc.ensures) c.if-acc-bound.true inv.1

pub loop-k-preserved : goal.loop-k-preserved
loop-k-preserved c =
    let inv = c.loop-k.invariant in
    let acc = weight_more _ _ _ _ _ inv.0 c.of_pair-acc.ensures in
    (acc, not_reached_more _ _ _ _ _ acc c.if-acc-bound.false inv.1)

pub returns : goal.returns
returns c = reached_none _ _ _ _ _ c.loop-k-test.false c.loop-k.invariant.1
