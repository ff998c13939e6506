-- `fault_text::machining::put_small_hole` meets its contract: one writer after the other.
use Rattle.fault_text.specs.Machining.{small_hole_text}
use Rattle.num_text.proofs.TextLaws.{adds_then}
use Rattle.fault_text.proofs.machining.put_small_hole.Goals as goal

pub returns : goal.returns
unfolding small_hole_text
returns c = adds_then _ _ c.put_bytes.ensures (adds_then _ _ c.put_mm.ensures (adds_then _ _ c.put_bytes-2.ensures (adds_then _ _ c.put_mm-2.ensures c.put_bytes-3.ensures)))
