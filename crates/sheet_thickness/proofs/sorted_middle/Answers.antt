-- `sheet_thickness::sorted_middle` meets its contract.
use Rattle.sheet_thickness.proofs.MiddleLaws.{sum_asks, pair_asks, middle_sorted}
use native.Mathlib.Omega.{arith}
use Rattle.sheet_thickness.proofs.sorted_middle.Goals as goal

pub weight_sum-total-requires : goal.weight_sum-total-requires
weight_sum-total-requires c =
    let h = c.requires in let all = sum_asks _ _ _ _ _ h.fact_1 _ c.weighted_median-value.ensures in record { fact_1 = all.0; fact_2 = all.1 }

pub of_pair-thinnest-requires : goal.of_pair-thinnest-requires
of_pair-thinnest-requires c =
    let h = c.requires in let all = pair_asks _ _ _ _ _ h.fact_1 _ c.weighted_median-value.ensures _ (omega (arith, h.fact_2)) in record { fact_1 = all.0; fact_2 = all.1 }

pub of_pair-thickest-requires : goal.of_pair-thickest-requires
of_pair-thickest-requires c =
    let h = c.requires in let all = pair_asks _ _ _ _ _ h.fact_1 _ c.weighted_median-value.ensures _ (omega (arith, h.fact_2)) in record { fact_1 = all.0; fact_2 = all.1 }

pub returns : goal.returns
returns c =
    let h = c.requires in
    middle_sorted _ _ _ _ _ h.fact_1 _ c.weighted_median-value.ensures _ _ _ h.fact_2 c.weight_sum-total.ensures c.of_pair-thinnest.ensures c.of_pair-thickest.ensures
