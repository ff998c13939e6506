-- `rule_machining::rounds::put_deep_hole` meets its contract: a flaw where a test of dfm.rs is met.
use Rattle.measure_sizes.specs.Round.{diameter_of, ratio_of}
use Rattle.rule_machining.proofs.RoundLaws.{deep_hole_max_one, deep_hole_standard_one, deep_hole_none}
use Rattle.rule_machining.proofs.rounds.put_deep_hole.Goals as goal

pub returns-then-ratio : goal.returns-then-ratio
unfolding diameter_of ratio_of
returns-then-ratio c = deep_hole_max_one c.if-ratio.true c.put_flaw.ensures

pub returns-then-ratio-2 : goal.returns-then-ratio-2
unfolding diameter_of ratio_of
returns-then-ratio-2 c = deep_hole_standard_one c.if-ratio.false c.if-ratio-2.true c.put_flaw-then-ratio-2.ensures

pub returns : goal.returns
unfolding diameter_of ratio_of
returns c = deep_hole_none c.if-ratio.false c.if-ratio-2.false
