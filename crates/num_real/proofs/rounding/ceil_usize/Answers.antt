-- `num_real::rounding::ceil_usize` meets its contract, by the laws of `RoundingLaws`.
use native.Mathlib.Omega.{arith}
use lib.Ieee.{of_bits}
use Rattle.num_real.proofs.RoundingLaws.{ceil_saturated, ceil_in_range, ceil_of_size, ceil_not_positive}
use Rattle.num_real.proofs.rounding.ceil_usize.Goals as goal

pub returns-then-x : goal.returns-then-x
unfolding of_bits
returns-then-x c = ceil_saturated c.args.x c.if-x.true

pub ceil_size-requires : goal.ceil_size-requires
unfolding of_bits
ceil_size-requires c = let all = ceil_in_range c.args.x c.if-x.false c.if-x-2.true in record { fact_1 = all.0; fact_2 = all.1 }

pub returns-then-x-2 : goal.returns-then-x-2
unfolding of_bits
returns-then-x-2 c =
    ceil_of_size c.args.x c.ceil_size.result c.if-x.false c.if-x-2.true c.ceil_size.ensures (omega arith)

pub returns : goal.returns
unfolding of_bits
returns c = ceil_not_positive c.args.x c.if-x-2.false
