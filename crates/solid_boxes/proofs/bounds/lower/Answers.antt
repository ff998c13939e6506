-- `solid_boxes::bounds::lower` meets its contract.
use Rattle.solid_boxes.proofs.OwnLaws.{min_taken, min_left}
use Rattle.solid_boxes.proofs.bounds.lower.Goals as goal

pub returns-then-x-a : goal.returns-then-x-a
returns-then-x-a c = min_taken _ _ c.requires c.if-x-a.true

pub returns : goal.returns
returns c = min_left _ _ c.requires c.if-x-a.false
