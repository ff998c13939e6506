-- The rows before the next are taken.
use Rattle.fault_rows.specs.Rows.{Taken}
use Rattle.fault_rows.proofs.take_rows.Given as goal

abbrev pub invariant-loop-i : goal.invariant-loop-i
invariant-loop-i l = Taken l.rows l.i l.initial.cells l.cells l.initial.numbers l.numbers
