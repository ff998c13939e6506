-- `fault_text::sheet::put_short_flange` meets its contract: one writer after the other.
use Rattle.fault_text.specs.Sheet.{short_flange_text}
use Rattle.num_text.proofs.TextLaws.{adds_then}
use Rattle.fault_text.proofs.sheet.put_short_flange.Goals as goal

pub returns : goal.returns
unfolding short_flange_text
returns c = adds_then _ _ c.put_bytes.ensures (adds_then _ _ c.put_mm.ensures (adds_then _ _ c.put_bytes-2.ensures (adds_then _ _ c.put_mm-2.ensures c.put_bytes-3.ensures)))
