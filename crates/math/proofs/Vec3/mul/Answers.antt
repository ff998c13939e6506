-- `math::Vec3::mul` meets its contract.
use mathlib.Core.Path.{refl}
use Rattle.math.specs.Vector.{times}
use Rattle.math.proofs.Vec3.mul.Goals as goal

pub returns : goal.returns
unfolding times
returns c = refl
