-- `solid_boxes::bounds::Bounds::grow` meets its contract.
use Rattle.num_float.proofs.NonNegative.{finite_number}
use Rattle.math.specs.Vector.{low_of, high_of}
use Rattle.solid_boxes.specs.Bounds.{grown}
use Rattle.solid_boxes.proofs.bounds.Bounds.grow.Goals as goal

pub lower-requires : goal.lower-requires
lower-requires c = finite_number _ c.requires.x.low

pub lower-requires-2 : goal.lower-requires-2
lower-requires-2 c = finite_number _ c.requires.y.low

pub lower-requires-3 : goal.lower-requires-3
lower-requires-3 c = finite_number _ c.requires.z.low

pub higher-requires : goal.higher-requires
higher-requires c = finite_number _ c.requires.x.high

pub higher-requires-2 : goal.higher-requires-2
higher-requires-2 c = finite_number _ c.requires.y.high

pub higher-requires-3 : goal.higher-requires-3
higher-requires-3 c = finite_number _ c.requires.z.high

pub returns : goal.returns
unfolding grown low_of high_of
returns c = cc
