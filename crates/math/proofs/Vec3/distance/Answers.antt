-- `math::Vec3::distance` meets its contract.
use borrow.Author.Rules.{rules}
use Rattle.math.specs.Vector.{distance_of}
use Rattle.math.proofs.Vec3.distance.Goals as goal

pub returns : goal.returns
unfolding distance_of
returns c = cc
