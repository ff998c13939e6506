-- `list_median::weighted_median` meets its contract.
use native.Mathlib.Omega.{arith}
use Rattle.list_median.proofs.MedianLaws.{halfway_none, halfway_some, low_place, median_is, sorted_numbered}
use Rattle.list_median.proofs.weighted_median.Goals as goal

pub returns-then-n-eq0 : goal.returns-then-n-eq0
returns-then-n-eq0 c =
    median_is _ _ _ _ _ _ c.requires c.sort.auto.mem c.sort.ensures (halfway_none _ _ _ _ c.if-n-eq0.true)

pub weight_sum-bound-requires-clause-fact_2 : goal.weight_sum-bound-requires-clause-fact_2
weight_sum-bound-requires-clause-fact_2 c = sorted_numbered _ _ _ _ _ c.sort.ensures c.requires.weighed

pub reached-k-requires-clause-fact_2 : goal.reached-k-requires-clause-fact_2
reached-k-requires-clause-fact_2 c = sorted_numbered _ _ _ _ _ c.sort.ensures c.requires.weighed

pub of_pair-requires-clause-fact_2 : goal.of_pair-requires-clause-fact_2
of_pair-requires-clause-fact_2 c =
    (sorted_numbered _ _ _ _ _ c.sort.ensures c.requires.valued).has _ (omega arith) (low_place _ _ _ c.if-n-eq0.false c.min.ensures)

pub returns : goal.returns
returns c =
    median_is _ _ _ _ _ _ c.requires c.sort.auto.mem c.sort.ensures
    (halfway_some _ _ _ _ _ _ _ _ c.if-n-eq0.false c.weight_sum-bound.ensures c.reached-k.ensures
    c.min.ensures c.of_pair.ensures)
