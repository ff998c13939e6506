-- `math::Vec3::length_sq` meets its contract.
use borrow.Author.Rules.{rules}
use Rattle.math.specs.Vector.{dot_of, length_sq_of}
use Rattle.math.proofs.Vec3.length_sq.Goals as goal

pub returns : goal.returns
unfolding length_sq_of dot_of
returns c = c.dot.ensures
