-- `math::Vec3::cross` meets its contract.
use mathlib.Core.Path.{refl}
use Rattle.math.specs.Vector.{cross_of}
use Rattle.math.proofs.Vec3.cross.Goals as goal

pub returns : goal.returns
unfolding cross_of
returns c = refl
