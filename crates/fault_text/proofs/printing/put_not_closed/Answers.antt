-- `fault_text::printing::put_not_closed` meets its contract: one writer after the other.
use Rattle.fault_text.specs.Printing.{not_closed_text}
use Rattle.num_text.proofs.TextLaws.{adds_then}
use Rattle.fault_text.proofs.printing.put_not_closed.Goals as goal

pub returns : goal.returns
unfolding not_closed_text
returns c = adds_then _ _ c.put_bytes.ensures (adds_then _ _ c.put_number.ensures c.put_bytes-2.ensures)
