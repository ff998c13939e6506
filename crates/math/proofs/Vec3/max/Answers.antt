-- `math::Vec3::max` meets its contract.
use borrow.Author.Rules.{rules}
use Rattle.math.specs.Vector.{high_of}
use Rattle.math.proofs.Vec3.max.Goals as goal

pub returns : goal.returns
unfolding high_of
returns c = cc
