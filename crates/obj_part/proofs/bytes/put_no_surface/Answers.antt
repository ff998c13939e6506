-- `obj_part::bytes::put_no_surface` meets its contract.
use Rattle.obj_part.proofs.bytes.put_no_surface.Goals as goal

pub returns : goal.returns
returns c = c.put_bytes.ensures
