-- `fault_text::printing::put_floor` meets its contract: one writer after the other.
use Rattle.fault_text.specs.Printing.{floor_text}
use Rattle.num_text.proofs.TextLaws.{adds_then}
use Rattle.fault_text.proofs.printing.put_floor.Goals as goal

pub returns : goal.returns
unfolding floor_text
returns c = adds_then _ _ c.put_bytes.ensures (adds_then _ _ c.put_mm.ensures c.put_bytes-2.ensures)
