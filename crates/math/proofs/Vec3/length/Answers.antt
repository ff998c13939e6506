-- `math::Vec3::length` meets its contract.
use borrow.Author.Rules.{rules}
use Rattle.math.specs.Vector.{length_sq_of, length_of}
use Rattle.math.proofs.Vec3.length.Goals as goal

pub returns : goal.returns
unfolding length_of length_sq_of
returns c = cc
