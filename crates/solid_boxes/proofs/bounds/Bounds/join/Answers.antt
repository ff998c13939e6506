-- `solid_boxes::bounds::Bounds::join` meets its contract.
use Rattle.solid_boxes.specs.Work.{joined}
use Rattle.solid_boxes.proofs.bounds.Bounds.join.Goals as goal

pub returns : goal.returns
unfolding joined
returns c = rw (c.min.ensures, c.max.ensures)
