-- `sheet_bends::is_close` meets its contract.
use Rattle.sheet_bends.proofs.AroundLaws.{close_is}
use Rattle.sheet_bends.proofs.is_close.Goals as goal

pub returns : goal.returns
returns c = close_is _ _ _ _ _ c.abs.ensures c.max.ensures
