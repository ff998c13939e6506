-- `print_walls::is_under_nozzle` meets its contract.
use Rattle.print_walls.specs.Work.{under_nozzle}
use Rattle.print_walls.proofs.is_under_nozzle.Goals as goal

pub returns-then-print : goal.returns-then-print
unfolding under_nozzle
returns-then-print c = rw c.if-print.true

pub returns : goal.returns
unfolding under_nozzle
returns c = rw c.if-print.false
