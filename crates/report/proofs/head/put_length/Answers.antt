-- `report::head::put_length` meets its contract: by its bits, or a dash.
use mathlib.Core.Path.{ap}
use Rattle.num_text.specs.Number.{hex16}
use Rattle.report.specs.Text.{length_text}
use Rattle.num_text.proofs.TextLaws.{adds_same}
use Rattle.report.proofs.head.put_length.Goals as goal

pub returns-in-Some : goal.returns-in-Some
unfolding length_text
returns-in-Some c = rw c.in-Some.is (adds_same _ _ (ap hex16 c.to_bits.ensures) c.put_hex.ensures)

pub returns-in-None : goal.returns-in-None
unfolding length_text
returns-in-None c = rw c.in-None.is c.put_byte.ensures
