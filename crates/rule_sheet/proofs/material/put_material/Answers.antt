-- `rule_sheet::material::put_material` meets its contract: a case for each.
use mathlib.Core.Path.{sym, ◌∙◌}
use borrow.Author.Tests.{not-true, not-false}
use Rattle.rule_sheet.proofs.MaterialLaws.{material_none, no_material_put, material_put}
use Rattle.rule_sheet.proofs.material.put_material.Goals as goal

pub returns-then-not-job : goal.returns-then-not-job
returns-then-not-job c = no_material_put _ (not-true _ c.if-not-job.true) c.put_flaw.ensures

pub returns-then-is_formed : goal.returns-then-is_formed
returns-then-is_formed c = material_none _ (not-false _ c.if-not-job.false) (sym c.is_formed.ensures ∙ c.if-is_formed.true)

pub returns : goal.returns
returns c = material_put _ (not-false _ c.if-not-job.false) (sym c.is_formed.ensures ∙ c.if-is_formed.false) c.put_flaw-2.ensures
