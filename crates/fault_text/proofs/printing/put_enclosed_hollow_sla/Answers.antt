-- `fault_text::printing::put_enclosed_hollow_sla` meets its contract: one writer after the other.
use Rattle.fault_text.specs.Printing.{enclosed_hollow_sla_text}
use Rattle.num_text.proofs.TextLaws.{adds_then}
use Rattle.fault_text.proofs.printing.put_enclosed_hollow_sla.Goals as goal

pub returns : goal.returns
unfolding enclosed_hollow_sla_text
returns c = adds_then _ _ c.put_bytes.ensures (adds_then _ _ c.put_decimal.ensures c.put_bytes-2.ensures)
