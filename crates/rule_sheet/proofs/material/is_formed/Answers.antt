-- `rule_sheet::material::is_formed` meets its contract.
use borrow.Author.Tests.{not-true, not-false}
use Rattle.rule_sheet.proofs.MaterialLaws.{formed_none, formed_some}
use Rattle.rule_sheet.proofs.material.is_formed.Goals as goal

pub returns-then-not-job : goal.returns-then-not-job
returns-then-not-job c = formed_none _ (not-true _ c.if-not-job.true)

pub returns : goal.returns
returns c = formed_some _ _ (not-false _ c.if-not-job.false) c.is_metal.ensures
