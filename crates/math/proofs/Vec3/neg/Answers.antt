-- `math::Vec3::neg` meets its contract.
use mathlib.Core.Path.{refl}
use Rattle.math.specs.Vector.{opposite}
use Rattle.math.proofs.Vec3.neg.Goals as goal

pub returns : goal.returns
unfolding opposite
returns c = refl
