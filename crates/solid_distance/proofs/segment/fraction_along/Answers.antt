-- `solid_distance::segment::fraction_along` meets its contract.
use Rattle.solid_distance.proofs.SegmentLaws.{along_short, along_long}
use Rattle.solid_distance.proofs.segment.fraction_along.Goals as goal

pub returns-then-square : goal.returns-then-square
returns-then-square c = along_short _ _ _ _ c.if-square.true

pub returns : goal.returns
returns c = along_long _ _ _ _ _ _ _ c.if-square.false c.sub.ensures c.dot.ensures c.clamp_unit.ensures
