-- `math::Vec3::div` meets its contract.
use mathlib.Core.Path.{refl}
use Rattle.math.specs.Vector.{over}
use Rattle.math.proofs.Vec3.div.Goals as goal

pub returns : goal.returns
unfolding over
returns c = refl
