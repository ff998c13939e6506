-- `fault_text::printing::overhang_limit` meets its contract: one division.
use mathlib.Core.Path.{refl}
use Rattle.fault_text.specs.Printing.{limit_of}
use Rattle.fault_text.proofs.printing.overhang_limit.Goals as goal

pub returns : goal.returns
unfolding limit_of
returns c = refl
