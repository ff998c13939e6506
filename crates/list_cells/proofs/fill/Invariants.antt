use Rattle.std.proofs.Common.{◌≡◌, replicate, drop, ◌++◌}
use Rattle.list_cells.proofs.fill.Given as goal

-- the cells passed have the value
abbrev pub invariant-loop-cell : goal.invariant-loop-cell
invariant-loop-cell g l = l.cells ≡ replicate l.cell-index l.value ++ drop l.cell-index l.initial.cells
