-- `list_median::weight_sum` meets its contract.
use Rattle.list_median.proofs.MedianLaws.{weight_none, weight_more}
use Rattle.list_median.proofs.weight_sum.Goals as goal

pub loop-k-init : goal.loop-k-init
loop-k-init c = weight_none _ _

pub loop-k-preserved : goal.loop-k-preserved
loop-k-preserved c =
    weight_more _ _ _ _ _ c.loop-k.invariant c.of_pair-sum.ensures
