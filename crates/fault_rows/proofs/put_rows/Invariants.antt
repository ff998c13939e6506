-- The rows before the next are written; the others are as they were.
use Rattle.std.proofs.Common.{◌≡◌}
use Rattle.fault_row.specs.Row.{row_at_of}
use Rattle.fault_rows.specs.Rows.{painted}
use Rattle.fault_rows.proofs.put_rows.Given as goal

abbrev pub invariant-loop-i : goal.invariant-loop-i
invariant-loop-i l = l.rows ≡ painted (row_at_of l.cells l.numbers) l.i l.initial.rows
