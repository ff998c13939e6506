-- `math::Vec3::add` meets its contract.
use mathlib.Core.Path.{refl}
use Rattle.math.specs.Vector.{plus}
use Rattle.math.proofs.Vec3.add.Goals as goal

pub returns : goal.returns
unfolding plus
returns c = refl
