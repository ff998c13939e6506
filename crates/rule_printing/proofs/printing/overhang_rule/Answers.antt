-- `rule_printing::printing::overhang_rule` meets its contract: where there is a limit, the faces that hang over, then the fault.
use Rattle.rule_printing.proofs.RuleLaws.{overhang_quiet, heights_there, count_fits, over_words, over_reals, over_cells, over_numbers, overhang_found}
use native.Mathlib.Omega.{arith}
use Rattle.rule_printing.proofs.printing.overhang_rule.Goals as goal

pub job_of-job-requires : goal.job_of-job-requires
job_of-job-requires c = c.requires.ready_1.standing.placed.checked

pub returns-then-not-print : goal.returns-then-not-print
returns-then-not-print c = let all = overhang_quiet _ _ c.requires.ready_1 _ c.job_of-job.ensures c.if-not-print.true in record { fact_1 = all.0; fact_2 = all.1 }

pub lean_of-lean-requires : goal.lean_of-lean-requires
lean_of-lean-requires c = heights_there _ _ c.requires.ready_1 _ c.job_of-job.ensures c.requires.faces_nonzero_3

pub put_overhangs-found-requires : goal.put_overhangs-found-requires
put_overhangs-found-requires c =
    record {
      standing_1 = c.requires.ready_1.standing;
      standing_2 = c.requires.ready_1.ranked;
      standing_3 = c.requires.ready_2;
      n_value = c.requires.ready_3;
    }

pub put_overhang-requires : goal.put_overhang-requires
put_overhang-requires c =
    record {
      fact_1 = omega (arith, c.requires.faces_nonzero_2);
      fact_2 = count_fits _ _ c.requires.ready_1 _ c.job_of-job.ensures _ c.lean_of-lean.ensures _ c.put_overhangs-found.ensures;
    }

pub shape_of-words : goal.shape_of-words
shape_of-words c = (over_words _ _ c.requires.ready_1 _ c.job_of-job.ensures _ c.lean_of-lean.ensures _ c.put_overhangs-found.ensures).long

pub shape_of-reals : goal.shape_of-reals
shape_of-reals c = (over_reals _ _ c.requires.ready_1 _ c.job_of-job.ensures _ c.lean_of-lean.ensures _ c.put_overhangs-found.ensures).long

pub shape_of-cells : goal.shape_of-cells
shape_of-cells c = over_cells _ _ c.requires.ready_1 _ c.job_of-job.ensures _ c.lean_of-lean.ensures _ c.put_overhangs-found.ensures (omega (arith, c.requires.ready_3, c.requires.faces_nonzero_1)) c.put_overhang.ensures

pub shape_of-numbers : goal.shape_of-numbers
shape_of-numbers c = over_numbers _ _ c.requires.ready_1 _ c.job_of-job.ensures _ c.lean_of-lean.ensures _ c.put_overhangs-found.ensures (omega (arith, c.requires.ready_3, c.requires.faces_nonzero_1)) c.put_overhang.ensures

pub returns : goal.returns
returns c = let all = overhang_found _ _ c.requires.ready_1 _ c.job_of-job.ensures _ c.lean_of-lean.ensures _ c.put_overhangs-found.ensures c.if-not-print.false (omega (arith, c.requires.ready_3, c.requires.faces_nonzero_1)) c.put_overhang.ensures in record { fact_1 = all.0; fact_2 = all.1 }
