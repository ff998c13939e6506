-- `wall_ray::strike::is_improved` meets its contract.
use Rattle.wall_ray.specs.declared.strike.Hit.{Hit}
use Rattle.std.specs.Prelude.{Option}
use mathlib.Core.Path.{ap, sym}
use Rattle.wall_ray.specs.Nearest.{improves}
use Rattle.wall_ray.proofs.strike.is_improved.Goals as goal

pub returns-in-None : goal.returns-in-None
unfolding improves
returns-in-None c = ap (λ (h : Option Hit). improves h c.args.t) (sym c.in-None.is)

pub returns-in-Some : goal.returns-in-Some
unfolding improves
returns-in-Some c = ap (λ (h : Option Hit). improves h c.args.t) (sym c.in-Some.is)
