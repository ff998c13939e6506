-- `fault_text::machining::put_thin_wall` meets its contract: one writer after the other.
use mathlib.Core.Path.{ap}
use Rattle.fault_text.specs.Job.{work_name}
use Rattle.fault_text.specs.Text.{mm}
use Rattle.fault_text.specs.Machining.{thin_wall_text}
use Rattle.num_text.proofs.TextLaws.{adds_then, adds_same}
use Rattle.fault_text.proofs.machining.put_thin_wall.Goals as goal

pub returns : goal.returns
unfolding thin_wall_text work_name
returns c = adds_then _ _ c.put_bytes.ensures (adds_then _ _ c.put_mm.ensures (adds_then _ _ c.put_bytes-2.ensures (adds_then _ _ c.put_name.ensures (adds_then _ _ c.put_bytes-3.ensures (adds_then _ _ (adds_same _ _ (ap mm c.min_wall.ensures) c.put_mm-2.ensures) c.put_bytes-4.ensures)))))
