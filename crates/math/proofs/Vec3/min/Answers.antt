-- `math::Vec3::min` meets its contract.
use borrow.Author.Rules.{rules}
use Rattle.math.specs.Vector.{low_of}
use Rattle.math.proofs.Vec3.min.Goals as goal

pub returns : goal.returns
unfolding low_of
returns c = cc
