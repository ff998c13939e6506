-- `math::Vec3::dot` meets its contract.
use mathlib.Core.Path.{refl}
use Rattle.math.specs.Vector.{dot_of}
use Rattle.math.proofs.Vec3.dot.Goals as goal

pub returns : goal.returns
unfolding dot_of
returns c = refl
