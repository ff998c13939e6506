-- `list_median::reached` meets its contract.
use mathlib.Core.Path.{◌≡◌}
use Rattle.list_median.specs.Median.{weight_to}
use Rattle.list_median.proofs.MedianLaws.{NotReached}
use Rattle.list_median.proofs.reached.Given as goal

abbrev pub invariant-loop-k : goal.invariant-loop-k
invariant-loop-k l = (l.acc ≡ weight_to l.weights l.mem l.k) × NotReached l.weights l.mem l.bound l.k
