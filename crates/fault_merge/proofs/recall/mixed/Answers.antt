-- `fault_merge::recall::mixed` meets its contract: a remainder.
use native.Mathlib.Nat.{mod-lt}
use lib.Dec.{lit<}
use Rattle.fault_merge.proofs.recall.mixed.Goals as goal

pub returns : goal.returns
returns c = mod-lt c.to_bits.result (lit< tt)
