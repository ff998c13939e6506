-- `solid_boxes::order::put_numbers` meets its contract.
use Rattle.solid_boxes.proofs.OrderLaws.{Counted}
use Rattle.solid_boxes.proofs.order.put_numbers.Given as goal

abbrev pub invariant-loop-i : goal.invariant-loop-i
invariant-loop-i l = Counted l.words l.i
