-- `obj_part::bytes::put_entry` meets its contract.
use Rattle.obj_part.specs.Bytes.{entry_bytes}
use Rattle.num_text.proofs.TextLaws.{adds_then}
use Rattle.obj_part.proofs.bytes.put_entry.Goals as goal

pub returns : goal.returns
unfolding entry_bytes
returns c = adds_then _ _ c.put_u32.ensures (adds_then _ _ c.put_u32-2.ensures (adds_then _ _ c.put_u32-3.ensures (adds_then _ _ c.put_u32-4.ensures (adds_then _ _ c.put_u32-5.ensures (adds_then _ _ c.put_u32-6.ensures c.put_no_surface.ensures)))))
