-- `rule_flanges::reach::run_reach` meets its contract: the corners that are passed.
use mathlib.Core.Path.{◌≡◌}
use Rattle.solid_polygon.specs.Work.{corner_at}
use Rattle.rule_flanges.specs.Flanges.{run_reach}
use Rattle.rule_flanges.proofs.reach.run_reach.Given as goal

abbrev pub invariant-loop-k : goal.invariant-loop-k
invariant-loop-k l = l.reach ≡ run_reach l.line.along l.line.from (corner_at l.file l.first) l.x l.k
