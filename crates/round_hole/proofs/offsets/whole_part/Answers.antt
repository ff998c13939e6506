-- `round_hole::offsets::whole_part` meets its contract.
use borrow.Author.Rules.{rules}
use Rattle.round_hole.specs.Direction.{whole_part_of}
use Rattle.round_hole.proofs.offsets.whole_part.Goals as goal

pub returns : goal.returns
unfolding whole_part_of
returns c = search rules
