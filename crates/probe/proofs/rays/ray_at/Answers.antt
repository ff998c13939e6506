-- `probe::rays::ray_at` meets its contract.
use mathlib.Core.Path.{refl}
use Rattle.probe.specs.Rays.{ray_at}
use Rattle.probe.proofs.rays.ray_at.Goals as goal

pub returns : goal.returns
unfolding ray_at
returns c = refl
