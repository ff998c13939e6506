-- `dfm_core::halves::answer_part` meets its contract.
use Rattle.std.proofs.Common.{refl}
use Rattle.file_ok.proofs.RefusalLaws.{passed_up}
use Rattle.dfm_core.proofs.FoundLaws.{asked}
use Rattle.dfm_core.proofs.ReportLaws.{ready_kept, answered_refused, answered_report}
use Rattle.dfm_core.proofs.halves.answer_part.Goals as goal

pub returns-in_err-found : goal.returns-in_err-found
returns-in_err-found c = answered_refused _ _ _ _ _ c.in_err-found.was (passed_up c.from_residual.result _ c.from_residual.ensures.1)

pub job_of-requires : goal.job_of-requires
job_of-requires c = (c.requires _ c.in_ok-found.was).kept.placed.checked

pub of-requires : goal.of-requires
of-requires c = (c.requires _ c.in_ok-found.was).kept.placed.checked

pub write_report-requires : goal.write_report-requires
write_report-requires c = ready_kept _ _ _ _ _ _ (c.requires _ c.in_ok-found.was) c.of.ensures.fact_1 (asked _ _ _ _ c.job_of.ensures c.stages_of.ensures c.of.ensures.fact_2 c.of.ensures.fact_3)

pub returns : goal.returns
returns c = answered_report _ _ _ _ _ _ _ _ _ (c.requires _ c.in_ok-found.was) c.in_ok-found.was c.write_report.ensures
