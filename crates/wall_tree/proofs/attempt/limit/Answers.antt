-- `wall_tree::attempt::limit` meets its contract.
use mathlib.Core.Path.{ap, sym, ◌∙◌}
use Rattle.wall_tree.specs.Work.{limit_of}
use Rattle.wall_ray.proofs.SlabLaws.{endless_is}
use Rattle.wall_tree.proofs.attempt.limit.Goals as goal

pub returns-in-Some : goal.returns-in-Some
unfolding limit_of
returns-in-Some c = ap limit_of (sym c.in-Some.is)

pub returns-in-None : goal.returns-in-None
unfolding limit_of
returns-in-None c = endless_is ∙ ap limit_of (sym c.in-None.is)
