-- `wall_ray::strike::Ray::point` meets its contract.
use Rattle.wall_ray.specs.Strike.{point_of}
use Rattle.wall_ray.proofs.strike.Ray.point.Goals as goal

pub returns : goal.returns
unfolding point_of
returns c = cc
