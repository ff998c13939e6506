-- `list_median::weight_sum` meets its contract.
use mathlib.Core.Path.{◌≡◌}
use Rattle.list_median.specs.Median.{weight_to}
use Rattle.list_median.proofs.weight_sum.Given as goal

abbrev pub invariant-loop-k : goal.invariant-loop-k
invariant-loop-k l = l.sum ≡ weight_to l.weights l.mem l.k
