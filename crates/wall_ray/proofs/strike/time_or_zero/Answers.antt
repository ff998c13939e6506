-- `wall_ray::strike::time_or_zero` meets its contract.
use mathlib.Core.Path.{ap, sym}
use Rattle.wall_ray.specs.Nearest.{time_or_zero}
use Rattle.wall_ray.proofs.strike.time_or_zero.Goals as goal

pub returns-in-None : goal.returns-in-None
unfolding time_or_zero
returns-in-None c = ap time_or_zero (sym c.in-None.is)

pub returns-in-Some : goal.returns-in-Some
unfolding time_or_zero
returns-in-Some c = ap time_or_zero (sym c.in-Some.is)
