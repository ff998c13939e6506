-- `fault_text::machining::put_deep_hole_standard` meets its contract: one writer after the other.
use Rattle.fault_text.specs.Machining.{deep_hole_standard_text}
use Rattle.num_text.proofs.TextLaws.{adds_then}
use Rattle.fault_text.proofs.machining.put_deep_hole_standard.Goals as goal

pub returns : goal.returns
unfolding deep_hole_standard_text
returns c = adds_then _ _ c.put_bytes.ensures (adds_then _ _ c.put_decimal.ensures c.put_bytes-2.ensures)
