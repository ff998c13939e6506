-- `rule_sheet::material::ratio_of` meets its contract: one division.
use Rattle.rule_sheet.proofs.MaterialLaws.{ratio_none, ratio_some}
use Rattle.rule_sheet.proofs.material.ratio_of.Goals as goal

pub returns-then-job : goal.returns-then-job
returns-then-job c = ratio_some _ c.if-job.true

pub returns : goal.returns
returns c = ratio_none _ c.if-job.false
