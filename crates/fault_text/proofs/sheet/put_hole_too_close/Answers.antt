-- `fault_text::sheet::put_hole_too_close` meets its contract: one writer after the other.
use Rattle.fault_text.specs.Sheet.{hole_too_close_text}
use Rattle.num_text.proofs.TextLaws.{adds_then}
use Rattle.fault_text.proofs.sheet.put_hole_too_close.Goals as goal

pub returns : goal.returns
unfolding hole_too_close_text
returns c = adds_then _ _ c.put_bytes.ensures (adds_then _ _ c.put_mm.ensures (adds_then _ _ c.put_bytes-2.ensures (adds_then _ _ c.put_bytes-3.ensures (adds_then _ _ c.put_bytes-4.ensures (adds_then _ _ c.put_mm-2.ensures c.put_bytes-5.ensures)))))
