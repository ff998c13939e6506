-- `fault_merge::recall::remember` meets its contract: one cell past the end, or none.
use native.Mathlib.Omega.{arith}
use Rattle.fault_merge.proofs.RecallLaws.{front_none, front_set}
use Rattle.fault_merge.proofs.recall.remember.Goals as goal

pub overflow_cast-work : goal.overflow_cast-work
overflow_cast-work c = omega (arith, c.requires.fact_2)

pub returns-then-slot-work : goal.returns-then-slot-work
returns-then-slot-work c = front_set _ _ _ _ _ (front_none _ _) c.requires.fact_1

pub returns-else-slot-work : goal.returns-else-slot-work
returns-else-slot-work c = front_none _ _
