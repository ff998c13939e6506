-- `report::head::put_head` meets its contract: one writer after the other.
use Rattle.num_text.proofs.PutLaws.{put_length}
use Rattle.report.specs.Text.{head_text}
use Rattle.num_text.proofs.TextLaws.{adds_then}
use Rattle.report.proofs.head.put_head.Goals as goal

pub returns : goal.returns
unfolding head_text
returns c = adds_then _ _ c.put_number.ensures (adds_then _ _ c.put_byte.ensures (adds_then _ _ c.put_length.ensures (adds_then _ _ c.put_byte-2.ensures (adds_then _ _ c.put_number-2.ensures (adds_then _ _ c.put_byte-3.ensures (adds_then _ _ c.put_length-2.ensures c.put_byte-4.ensures))))))
