-- `round_hole::hole::some_near` meets its contract.
use Rattle.round_hole.proofs.RoundLaws.{found_true}
use Rattle.round_hole.proofs.hole.some_near.Goals as goal

pub returns-then-some_from : goal.returns-then-some_from
returns-then-some_from c = found_true _ _ _ _ c.if-some_from.true c.some_from.ensures
