-- `fault_text::printing::put_print_thin_wall` meets its contract: one writer after the other.
use Rattle.fault_text.specs.Printing.{print_thin_wall_text}
use Rattle.num_text.proofs.TextLaws.{adds_then, adds_same}
use Rattle.fault_text.proofs.printing.put_print_thin_wall.Goals as goal

pub returns : goal.returns
unfolding print_thin_wall_text
returns c = adds_then _ _ c.put_bytes.ensures (adds_then _ _ c.put_mm.ensures (adds_then _ _ c.put_bytes-2.ensures (adds_then _ _ (adds_same _ _ c.label.ensures c.put_bytes-3.ensures) (adds_then _ _ c.put_bytes-4.ensures (adds_then _ _ c.put_mm-2.ensures c.put_bytes-5.ensures)))))
