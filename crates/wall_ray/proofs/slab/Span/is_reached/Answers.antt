-- `wall_ray::slab::Span::is_reached` meets its contract.
use mathlib.Core.Path.{refl}
use Rattle.wall_ray.specs.Slab.{passes, reached_in}
use Rattle.wall_ray.proofs.slab.Span.is_reached.Goals as goal

pub returns : goal.returns
unfolding reached_in passes
returns c = refl
