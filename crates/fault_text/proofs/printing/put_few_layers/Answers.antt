-- `fault_text::printing::put_few_layers` meets its contract: one writer after the other.
use Rattle.fault_text.specs.Printing.{few_layers_text, two_layers}
use Rattle.num_text.proofs.TextLaws.{adds_then}
use Rattle.fault_text.proofs.printing.put_few_layers.Goals as goal

pub returns : goal.returns
unfolding few_layers_text two_layers
returns c = adds_then _ _ c.put_floor.ensures (adds_then _ _ c.put_decimal.ensures (adds_then _ _ c.put_bytes.ensures (adds_then _ _ c.put_mm.ensures (adds_then _ _ c.put_bytes-2.ensures (adds_then _ _ c.put_mm-2.ensures c.put_bytes-3.ensures)))))
