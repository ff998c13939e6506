-- `solid_distance::segment::clamp_unit` meets its contract.
use Rattle.solid_distance.proofs.SegmentLaws.{clamp_low, clamp_high, clamp_between}
use Rattle.solid_distance.proofs.segment.clamp_unit.Goals as goal

pub returns-then-x : goal.returns-then-x
returns-then-x c = clamp_low _ c.if-x.true

pub returns-then-x-2 : goal.returns-then-x-2
returns-then-x-2 c = clamp_high _ c.if-x.false c.if-x-2.true

pub returns : goal.returns
returns c = clamp_between _ c.if-x.false c.if-x-2.false
