use Rattle.std.proofs.Common.{arith, ap, ◌∙◌, set}
use Rattle.list_laws.proofs.Fill.{fill_more}
use Rattle.list_cells.proofs.fill.Goals as goal

pub loop-cell-preserved : goal.loop-cell-preserved
loop-cell-preserved g c =
    ap (λ t. set t c.loop-cell.cell-index c.args.value) c.loop-cell.invariant ∙ fill_more c.loop-cell.cell-index c.args.value c.args.cells.now (omega arith)
