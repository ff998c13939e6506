-- `fault_text::machining::put_deep_inside_corner` meets its contract: one writer after the other.
use Rattle.fault_text.specs.Machining.{deep_inside_corner_text}
use Rattle.num_text.proofs.TextLaws.{adds_then}
use Rattle.fault_text.proofs.machining.put_deep_inside_corner.Goals as goal

pub returns : goal.returns
unfolding deep_inside_corner_text
returns c = adds_then _ _ c.put_bytes.ensures (adds_then _ _ c.put_mm.ensures (adds_then _ _ c.put_bytes-2.ensures (adds_then _ _ c.put_mm-2.ensures (adds_then _ _ c.put_bytes-3.ensures (adds_then _ _ c.put_decimal.ensures c.put_bytes-4.ensures)))))
