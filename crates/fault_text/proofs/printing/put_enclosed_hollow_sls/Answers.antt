-- `fault_text::printing::put_enclosed_hollow_sls` meets its contract: one writer after the other.
use Rattle.fault_text.specs.Printing.{enclosed_hollow_sls_text}
use Rattle.num_text.proofs.TextLaws.{adds_then}
use Rattle.fault_text.proofs.printing.put_enclosed_hollow_sls.Goals as goal

pub returns : goal.returns
unfolding enclosed_hollow_sls_text
returns c = adds_then _ _ c.put_bytes.ensures (adds_then _ _ c.put_decimal.ensures c.put_bytes-2.ensures)
