-- `rule_machining::rounds::put_tight_radius` meets its contract: a flaw where the test of dfm.rs is met.
use Rattle.rule_machining.proofs.RoundLaws.{tight_radius_one, tight_radius_none}
use Rattle.rule_machining.proofs.rounds.put_tight_radius.Goals as goal

pub returns-then-round : goal.returns-then-round
returns-then-round c = tight_radius_one c.if-round.true c.put_flaw.ensures

pub returns : goal.returns
returns c = tight_radius_none c.if-round.false
