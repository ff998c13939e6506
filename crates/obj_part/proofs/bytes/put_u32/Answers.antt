-- `obj_part::bytes::put_u32` meets its contract.
use Rattle.obj_part.specs.Bytes.{le32}
use Rattle.num_text.proofs.TextLaws.{adds_same}
use Rattle.obj_part.proofs.bytes.put_u32.Goals as goal

pub returns : goal.returns
unfolding le32
returns c = adds_same _ _ c.to_le_bytes.ensures c.put_bytes.ensures
