-- `wall_ray::slab::inverse` meets its contract.
use mathlib.Core.Path.{refl}
use Rattle.wall_ray.specs.Strike.{inverse_of}
use Rattle.wall_ray.proofs.slab.inverse.Goals as goal

pub returns : goal.returns
unfolding inverse_of
returns c = refl
