-- `math::Vec3::sub` meets its contract.
use mathlib.Core.Path.{refl}
use Rattle.math.specs.Vector.{minus}
use Rattle.math.proofs.Vec3.sub.Goals as goal

pub returns : goal.returns
unfolding minus
returns c = refl
