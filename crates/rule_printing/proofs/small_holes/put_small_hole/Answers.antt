-- `rule_printing::small_holes::put_small_hole` meets its contract: a row where the test of dfm.rs is met.
use Rattle.measure_sizes.specs.Round.{diameter_of}
use Rattle.rule_printing.proofs.HoleLaws.{hole_one, hole_none}
use Rattle.rule_printing.proofs.small_holes.put_small_hole.Goals as goal

pub returns-then-d-least : goal.returns-then-d-least
unfolding diameter_of
returns-then-d-least c = hole_one _ _ c.if-d-least.true c.put_flaw.ensures

pub returns : goal.returns
unfolding diameter_of
returns c = hole_none _ _ c.if-d-least.false
