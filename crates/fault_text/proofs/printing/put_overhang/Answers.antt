-- `fault_text::printing::put_overhang` meets its contract: one writer after the other.
use mathlib.Core.Path.{ap}
use lib.Ieee.{Float}
use Rattle.num_text.specs.Decimal.{decimal_text}
use Rattle.fault_text.specs.Printing.{overhang_text}
use Rattle.num_text.proofs.TextLaws.{adds_then, adds_same}
use Rattle.fault_text.proofs.printing.put_overhang.Goals as goal

pub returns : goal.returns
unfolding overhang_text
returns c = adds_then _ _ c.put_decimal.ensures (adds_then _ _ c.put_bytes.ensures (adds_then _ _ (adds_same _ _ (ap (λ (l : Float). decimal_text l 0) c.overhang_limit.ensures) c.put_decimal-2.ensures) c.put_bytes-2.ensures))
