-- `fault_text::printing::put_thinner_than_a_layer` meets its contract: one writer after the other.
use Rattle.fault_text.specs.Printing.{thinner_than_a_layer_text}
use Rattle.num_text.proofs.TextLaws.{adds_then}
use Rattle.fault_text.proofs.printing.put_thinner_than_a_layer.Goals as goal

pub returns : goal.returns
unfolding thinner_than_a_layer_text
returns c = adds_then _ _ c.put_floor.ensures (adds_then _ _ c.put_bytes.ensures (adds_then _ _ c.put_mm.ensures c.put_bytes-2.ensures))
