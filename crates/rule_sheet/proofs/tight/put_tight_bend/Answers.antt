-- `rule_sheet::tight::put_tight_bend` meets its contract: a row where the test of dfm.rs is met.
use Rattle.rule_sheet.proofs.TightLaws.{tight_one, tight_none}
use Rattle.rule_sheet.proofs.tight.put_tight_bend.Goals as goal

pub returns-then-inner-least : goal.returns-then-inner-least
returns-then-inner-least c = tight_one c.if-inner-least.true c.put_flaw.ensures

pub returns : goal.returns
returns c = tight_none c.if-inner-least.false
