-- `print_walls::severity` meets its contract.
use Rattle.print_walls.specs.Work.{severity_by}
use Rattle.print_walls.proofs.severity.Goals as goal

pub returns-then-print : goal.returns-then-print
unfolding severity_by
returns-then-print c = rw c.if-print.true

pub returns-then-x-print : goal.returns-then-x-print
unfolding severity_by
returns-then-x-print c = rw (c.if-print.false, c.if-x-print.true)

pub returns : goal.returns
unfolding severity_by
returns c = rw (c.if-print.false, c.if-x-print.false)
