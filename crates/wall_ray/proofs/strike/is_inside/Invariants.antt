-- `wall_ray::strike::is_inside` meets its contract.
use mathlib.Core.Path.{◌≡◌}
use mathlib.Core.Bool.{true}
use Rattle.list_laws.specs.Below.{all_below}
use Rattle.solid_polygon.specs.Work.{corner_at}
use Rattle.wall_ray.specs.Strike.{is_within}
use Rattle.wall_ray.proofs.strike.is_inside.Given as goal

abbrev pub invariant-loop-k : goal.invariant-loop-k
invariant-loop-k l = all_below l.k (is_within (corner_at l.file l.first) l.n l.normal l.q) ≡ true
