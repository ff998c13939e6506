-- `print_walls::put_side` meets its contract: a row where the tests of dfm.rs are met.
use Rattle.print_walls.proofs.FaultLaws.{side_none, side_nozzle, side_thin}
use Rattle.print_walls.proofs.put_side.Goals as goal

pub returns-then-is_under_nozzle : goal.returns-then-is_under_nozzle
returns-then-is_under_nozzle c = side_nozzle _ c.is_under_nozzle.ensures c.if-is_under_nozzle.true c.put_flaw.ensures

pub returns-then-x-print : goal.returns-then-x-print
returns-then-x-print c = side_thin _ c.is_under_nozzle.ensures c.if-is_under_nozzle.false c.if-x-print.true c.severity.ensures c.put_flaw-then-x-print.ensures

pub returns : goal.returns
returns c = side_none _ c.is_under_nozzle.ensures c.if-is_under_nozzle.false c.if-x-print.false
