-- `wall_ray::strike::Ray::time` meets its contract.
use Rattle.wall_ray.specs.Strike.{time_of}
use Rattle.wall_ray.proofs.strike.Ray.time.Goals as goal

pub returns : goal.returns
unfolding time_of
returns c = rw (c.dot.ensures, c.requires)
