-- `fault_text::text::put_mm` meets its contract: one writer after the other, the first with the places of the length.
use mathlib.Core.Path.{ap}
use Rattle.num_text.specs.Decimal.{decimal_text}
use Rattle.fault_text.specs.Text.{mm}
use Rattle.num_text.proofs.TextLaws.{adds_then, adds_same}
use Rattle.fault_text.proofs.text.put_mm.Goals as goal

pub returns : goal.returns
unfolding mm
returns c = adds_then _ _ (adds_same _ _ (ap (decimal_text _) c.mm_places.ensures) c.put_decimal.ensures) c.put_bytes.ensures
