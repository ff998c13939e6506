-- `rule_machining::rounds::put_round` meets its contract: by what the round is.
use borrow.Author.Tests.{not-true, not-false}
use Rattle.rule_machining.proofs.RoundLaws.{convex_none, hole_put, inside_put}
use Rattle.rule_machining.proofs.rounds.put_round.Goals as goal

pub returns-then-not-round : goal.returns-then-not-round
returns-then-not-round c = convex_none (not-true _ c.if-not-round.true)

pub returns-then-round : goal.returns-then-round
returns-then-round c = hole_put (not-false _ c.if-not-round.false) c.if-round.true c.put_hole.ensures

pub returns : goal.returns
returns c = inside_put (not-false _ c.if-not-round.false) c.if-round.false c.put_inside.ensures
