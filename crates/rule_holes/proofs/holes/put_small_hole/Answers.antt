-- `rule_holes::holes::put_small_hole` meets its contract: a row where the test of dfm.rs is met.
use Rattle.measure_sizes.specs.Round.{diameter_of}
use Rattle.rule_holes.proofs.HoleLaws.{small_one, small_none}
use Rattle.rule_holes.proofs.holes.put_small_hole.Goals as goal

pub returns-then-d-least : goal.returns-then-d-least
unfolding diameter_of
returns-then-d-least c = small_one _ _ c.if-d-least.true c.put_flaw.ensures

pub returns : goal.returns
unfolding diameter_of
returns c = small_none _ _ c.if-d-least.false
