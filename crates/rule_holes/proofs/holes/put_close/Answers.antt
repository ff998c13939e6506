-- `rule_holes::holes::put_close` meets its contract: a row where the test of dfm.rs is met.
use Rattle.rule_holes.proofs.HoleLaws.{close_one, close_none}
use Rattle.rule_holes.proofs.holes.put_close.Goals as goal

pub returns-then-gap-need : goal.returns-then-gap-need
returns-then-gap-need c = close_one _ _ _ _ _ _ c.if-gap-need.true c.max.ensures c.close_flaw-flaw.ensures c.put_flaw.ensures

pub returns : goal.returns
returns c = close_none _ _ _ _ c.if-gap-need.false
