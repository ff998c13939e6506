-- `num_root::guess` meets its contract: the two patterns that it makes are no NaN's.
use Rattle.std.proofs.Common.{arith, rules}
use Rattle.num_root.proofs.Patterns.{no_nan_bits}
use Rattle.num_root.proofs.guess.Goals as goal

pub float_from_bits-s : goal.float_from_bits-s
float_from_bits-s c = no_nan_bits _ (omega arith)

pub float_from_bits-a : goal.float_from_bits-a
float_from_bits-a c = no_nan_bits _ (omega arith)
