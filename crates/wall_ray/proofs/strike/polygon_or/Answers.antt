-- `wall_ray::strike::polygon_or` meets its contract.
use mathlib.Core.Path.{ap, sym}
use Rattle.wall_ray.specs.Nearest.{polygon_or}
use Rattle.wall_ray.proofs.strike.polygon_or.Goals as goal

pub returns-in-None : goal.returns-in-None
unfolding polygon_or
returns-in-None c = ap (polygon_or c.args.none) (sym c.in-None.is)

pub returns-in-Some : goal.returns-in-Some
unfolding polygon_or
returns-in-Some c = ap (polygon_or c.args.none) (sym c.in-Some.is)
