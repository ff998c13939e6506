-- `num_root::bisect` meets its contract. The invariant: the root lies from lo up and below hi; the measure is the width of the interval.
use Rattle.std.proofs.Common.{◌-◌, ◌*◌, ◌^◌, ◌<◌, ◌≤◌, arith}
use Rattle.num_root.proofs.Squares.{at_most, ends_up, ends_down}
use Rattle.num_root.proofs.bisect.Given as goal

abbrev pub invariant-loop-lo : goal.invariant-loop-lo
invariant-loop-lo l = (l.lo * l.lo ≤ l.m * 2 ^ 52) × (l.m * 2 ^ 52 < l.hi * l.hi) × (2 ^ 52 ≤ l.lo) × (l.lo < l.hi) × (l.hi ≤ 2 ^ 53)

abbrev pub decreases-loop-lo : goal.decreases-loop-lo
decreases-loop-lo l = l.hi - l.lo
