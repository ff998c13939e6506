-- `wall_ray::strike::plane_at` meets its contract.
use mathlib.Core.Path.{refl}
use Rattle.solid_faces.specs.Kept.{plane_at_of}
use Rattle.wall_ray.proofs.strike.plane_at.Goals as goal

pub returns : goal.returns
unfolding plane_at_of
returns c = refl
