-- `wall_ray::strike::is_parallel` meets its contract.
use mathlib.Core.Path.{sym}
use Rattle.wall_ray.specs.Strike.{e_12}
use Rattle.wall_ray.proofs.StrikeLaws.{abs_below, positive_e_12}
use Rattle.wall_ray.proofs.strike.is_parallel.Goals as goal

pub returns : goal.returns
returns c = sym (abs_below c.args.denom e_12 positive_e_12)
