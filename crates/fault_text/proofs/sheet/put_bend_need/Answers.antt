-- `fault_text::sheet::put_bend_need` meets its contract: one writer after the other.
use Rattle.fault_text.specs.Sheet.{bend_need}
use Rattle.num_text.proofs.TextLaws.{adds_then}
use Rattle.fault_text.proofs.sheet.put_bend_need.Goals as goal

pub returns : goal.returns
unfolding bend_need
returns c = adds_then _ _ c.put_bytes.ensures (adds_then _ _ c.put_ratio.ensures c.put_bytes-2.ensures)
