-- `rule_machining::rounds::put_deep_corner` meets its contract: a flaw where the test of dfm.rs is met.
use Rattle.measure_sizes.specs.Round.{diameter_of, ratio_of}
use Rattle.rule_machining.proofs.RoundLaws.{deep_corner_one, deep_corner_none}
use Rattle.rule_machining.proofs.rounds.put_deep_corner.Goals as goal

pub returns-then-ratio : goal.returns-then-ratio
unfolding diameter_of ratio_of
returns-then-ratio c = deep_corner_one c.if-ratio.true c.put_flaw.ensures

pub returns : goal.returns
unfolding diameter_of ratio_of
returns c = deep_corner_none c.if-ratio.false
