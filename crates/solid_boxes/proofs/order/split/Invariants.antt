-- `solid_boxes::order::split` meets its contract.
use Prim.Native.Nat.{◌≤◌, ◌-◌}
use Rattle.solid_boxes.proofs.OrderLaws.{Splitting}
use Rattle.solid_boxes.proofs.order.split.Given as goal

abbrev pub invariant-loop-l : goal.invariant-loop-l
invariant-loop-l l = (l.x ≤ l.l) × ((l.l ≤ l.r) × ((l.r ≤ l.b) × Splitting l.initial.words l.words l.n))

abbrev pub decreases-loop-l : goal.decreases-loop-l
decreases-loop-l l = l.r - l.l
