-- `round_hole::offsets::length` meets its contract.
use Rattle.round_hole.specs.Direction.{length_of}
use Rattle.round_hole.proofs.offsets.length.Goals as goal

pub returns : goal.returns
unfolding length_of
returns c = c.sqrt.ensures
