-- `wall_ray::attempt::comes_first` meets its contract.
use Rattle.std.specs.Prelude.{Option}
use mathlib.Core.Path.{ap, sym}
use Rattle.wall_ray.specs.declared.strike.Hit.{Hit}
use Rattle.wall_ray.specs.Work.{comes}
use Rattle.wall_ray.proofs.attempt.comes_first.Goals as goal

pub returns-in-Some : goal.returns-in-Some
unfolding comes
returns-in-Some c = ap (λ (h : Option Hit). comes h c.args.p c.args.t) (sym c.in-Some.is)

pub returns-in-None : goal.returns-in-None
unfolding comes
returns-in-None c = ap (λ (h : Option Hit). comes h c.args.p c.args.t) (sym c.in-None.is)
