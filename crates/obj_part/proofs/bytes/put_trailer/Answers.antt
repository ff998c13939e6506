-- `obj_part::bytes::put_trailer` meets its contract.
use Rattle.obj_part.specs.Bytes.{trailer_bytes}
use Rattle.num_text.proofs.TextLaws.{adds_then}
use Rattle.obj_part.proofs.bytes.put_trailer.Goals as goal

pub returns : goal.returns
unfolding trailer_bytes
returns c = adds_then _ _ c.put_u32.ensures (adds_then _ _ c.put_u32-2.ensures (adds_then _ _ c.put_u32-3.ensures c.put_u32-4.ensures))
