-- `fault_text::sheet::put_not_one_thickness` meets its contract: one writer after the other.
use Rattle.fault_text.specs.Sheet.{not_one_thickness_text}
use Rattle.num_text.proofs.TextLaws.{adds_then}
use Rattle.fault_text.proofs.sheet.put_not_one_thickness.Goals as goal

pub returns : goal.returns
unfolding not_one_thickness_text
returns c = adds_then _ _ c.put_bytes.ensures (adds_then _ _ c.put_mm.ensures (adds_then _ _ c.put_bytes-2.ensures (adds_then _ _ c.put_mm-2.ensures (adds_then _ _ c.put_bytes-3.ensures (adds_then _ _ c.put_mm-3.ensures c.put_bytes-4.ensures)))))
