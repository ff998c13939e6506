-- `sheet_bends::is_around` meets its contract.
use Rattle.sheet_bends.proofs.AroundLaws.{around_along, around_apart, around_is}
use Rattle.sheet_bends.proofs.is_around.Goals as goal

pub returns-then-length-thick : goal.returns-then-length-thick
returns-then-length-thick c = around_is _ _ _ _ _ c.cross.ensures c.length.ensures c.if-length.true _ _ _ c.sub.ensures c.cross-then-length.ensures c.length-then-length.ensures c.if-length-thick.true _ c.is_close.ensures

pub returns-else-length-thick : goal.returns-else-length-thick
returns-else-length-thick c = around_apart _ _ _ _ _ c.cross.ensures c.length.ensures c.if-length.true _ _ _ c.sub.ensures c.cross-then-length.ensures c.length-then-length.ensures c.if-length-thick.false

pub returns-else-length : goal.returns-else-length
returns-else-length c = around_along _ _ _ _ _ c.cross.ensures c.length.ensures c.if-length.false
