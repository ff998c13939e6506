-- `fault_text::sheet::put_tight_bend` meets its contract: one writer after the other.
use Rattle.fault_text.specs.Sheet.{tight_bend_text, sheet_name}
use Rattle.num_text.proofs.TextLaws.{adds_then}
use Rattle.fault_text.proofs.sheet.put_tight_bend.Goals as goal

pub returns : goal.returns
unfolding tight_bend_text sheet_name
returns c = adds_then _ _ c.put_bytes.ensures (adds_then _ _ c.put_mm.ensures (adds_then _ _ c.put_bytes-2.ensures (adds_then _ _ c.put_name.ensures (adds_then _ _ c.put_bend_need.ensures (adds_then _ _ c.put_mm-2.ensures c.put_bytes-3.ensures)))))
