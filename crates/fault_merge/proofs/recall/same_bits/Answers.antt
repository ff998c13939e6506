-- `fault_merge::recall::same_bits` meets its contract: a number is told by its bits.
use mathlib.Core.Path.{sym, subst}
use lib.Dec.{T}
use Rattle.fault_merge.proofs.RecallLaws.{bits_same}
use Rattle.fault_merge.proofs.recall.same_bits.Goals as goal

pub returns : goal.returns
returns c = bits_same _ _ _ _ (subst T (sym c.well_formed.0.1) tt) (subst T (sym c.well_formed.1.0.1) tt) c.to_bits.ensures c.to_bits-2.ensures
