-- `round_hole::hole::some_follows` meets its contract.
use Prim.Native.Nat.{◌-◌, ◌≤◌}
use Rattle.round_hole.proofs.hole.some_follows.Given as goal

abbrev pub invariant-loop-w : goal.invariant-loop-w
invariant-loop-w l = 8 ≤ l.w

abbrev pub decreases-loop-w : goal.decreases-loop-w
decreases-loop-w l = l.n - l.w
