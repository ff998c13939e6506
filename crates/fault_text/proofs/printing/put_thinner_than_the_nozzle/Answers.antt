-- `fault_text::printing::put_thinner_than_the_nozzle` meets its contract: one writer after the other.
use Rattle.fault_text.specs.Printing.{thinner_than_the_nozzle_text}
use Rattle.num_text.proofs.TextLaws.{adds_then}
use Rattle.fault_text.proofs.printing.put_thinner_than_the_nozzle.Goals as goal

pub returns : goal.returns
unfolding thinner_than_the_nozzle_text
returns c = adds_then _ _ c.put_bytes.ensures (adds_then _ _ c.put_mm.ensures (adds_then _ _ c.put_bytes-2.ensures (adds_then _ _ c.put_mm-2.ensures c.put_bytes-3.ensures)))
