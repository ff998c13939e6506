-- `fault_text::machining::put_tight_inside_radius` meets its contract: one writer after the other.
use Rattle.fault_text.specs.Machining.{tight_inside_radius_text}
use Rattle.num_text.proofs.TextLaws.{adds_then}
use Rattle.fault_text.proofs.machining.put_tight_inside_radius.Goals as goal

pub returns : goal.returns
unfolding tight_inside_radius_text
returns c = adds_then _ _ c.put_bytes.ensures (adds_then _ _ c.put_mm.ensures (adds_then _ _ c.put_bytes-2.ensures (adds_then _ _ c.put_mm-2.ensures c.put_bytes-3.ensures)))
