-- `wall_ray::slab::meeting` meets its contract.
use mathlib.Core.Path.{refl}
use Rattle.wall_ray.specs.Slab.{meets}
use Rattle.wall_ray.proofs.slab.meeting.Goals as goal

pub returns : goal.returns
unfolding meets
returns c = refl
