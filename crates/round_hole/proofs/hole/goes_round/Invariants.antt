-- `round_hole::hole::goes_round` meets its contract.
use mathlib.Core.Path.{◌≡◌}
use mathlib.Core.Bool.{true}
use Rattle.round_hole.specs.Direction.{all_followed}
use Rattle.round_hole.specs.Work.{directions_in}
use Rattle.round_hole.proofs.hole.goes_round.Given as goal

abbrev pub invariant-loop-k : goal.invariant-loop-k
invariant-loop-k l = all_followed (directions_in l.k l.cells) (directions_in l.n l.cells) ≡ true
