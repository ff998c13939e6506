-- `solid_boxes::order::put_numbers` meets its contract.
use native.Mathlib.Omega.{arith}
use Rattle.solid_boxes.proofs.OrderLaws.{numbered_all}
use Rattle.solid_boxes.proofs.order.put_numbers.Goals as goal

pub returns-clause-fact_1 : goal.returns-clause-fact_1
returns-clause-fact_1 c = numbered_all _ _ _ (omega arith) c.loop-i-test.false c.loop-i.invariant (omega arith)
