-- `solid_tours::tour::nearer` meets its contract.
use Rattle.solid_tours.proofs.PackLaws.{lesser_new, lesser_old}
use Rattle.solid_tours.proofs.tour.nearer.Goals as goal

pub segment_at-requires : goal.segment_at-requires
segment_at-requires c = c.requires

pub square_to-square-requires : goal.square_to-square-requires
square_to-square-requires c = tt

pub returns-then-square-least : goal.returns-then-square-least
returns-then-square-least c = lesser_new _ _ _ _ _ c.segment_at.ensures c.square_to-square.ensures c.if-square-least.true

pub returns : goal.returns
returns c = lesser_old _ _ _ _ _ c.segment_at.ensures c.square_to-square.ensures c.if-square-least.false
