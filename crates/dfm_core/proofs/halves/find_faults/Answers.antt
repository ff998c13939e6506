-- `dfm_core::halves::find_faults` meets its contract.
use Rattle.std.proofs.Common.{◌∙◌, sym}
use Rattle.file_ok.proofs.RefusalLaws.{passed_up}
use Rattle.scratch.proofs.RefusalLaws.{put_number}
use Rattle.dfm_core.proofs.ReportLaws.{finding_early}
use Rattle.dfm_core.proofs.halves.find_faults.Goals as goal

pub returns-in_err-body_refusal : goal.returns-in_err-body_refusal
returns-in_err-body_refusal c =
    finding_early _ _ _ _ _ _ _ _ (sym c.body_refusal.ensures ∙ c.in_err-body_refusal.was) (passed_up c.from_residual.result _ c.from_residual.ensures.1)

pub find_part-requires : goal.find_part-requires
find_part-requires c = put_number _ _ _ (sym c.body_refusal.ensures ∙ c.in_ok-body_refusal.was)

pub returns : goal.returns
returns c = c.find_part.ensures
