-- `fault_merge::recall::same_edges` meets its contract: another kind, or a test.
use borrow.Author.Tests.{eqb-true}
use Rattle.fault_merge.proofs.recall.same_edges.Goals as goal

pub returns-then-r-ne-NOT_CLOSED : goal.returns-then-r-ne-NOT_CLOSED
returns-then-r-ne-NOT_CLOSED c = λ h k. absurd (c.if-r-ne-NOT_CLOSED.true k)

pub returns-else-r-ne-NOT_CLOSED : goal.returns-else-r-ne-NOT_CLOSED
returns-else-r-ne-NOT_CLOSED c = λ h k. eqb-true _ _ h
