-- `solid_boxes::bounds::higher` meets its contract.
use Rattle.solid_boxes.proofs.OwnLaws.{max_taken, max_left}
use Rattle.solid_boxes.proofs.bounds.higher.Goals as goal

pub returns-then-a-x : goal.returns-then-a-x
returns-then-a-x c = max_taken _ _ c.requires c.if-a-x.true

pub returns : goal.returns
returns c = max_left _ _ c.requires c.if-a-x.false
