-- `rule_machining::rounds::put_small_hole` meets its contract: a flaw where the test of dfm.rs is met.
use Rattle.measure_sizes.specs.Round.{diameter_of}
use Rattle.rule_machining.proofs.RoundLaws.{small_hole_one, small_hole_none}
use Rattle.rule_machining.proofs.rounds.put_small_hole.Goals as goal

pub returns-then-d : goal.returns-then-d
unfolding diameter_of
returns-then-d c = small_hole_one c.if-d.true c.put_flaw.ensures

pub returns : goal.returns
unfolding diameter_of
returns c = small_hole_none c.if-d.false
