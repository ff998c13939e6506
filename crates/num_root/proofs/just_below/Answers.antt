-- `num_root::just_below` meets its contract: the first test shows that y is no NaN, so that it has a pattern.
use Rattle.std.proofs.Common.{T, sym, subst, rules}
use Rattle.num_root.proofs.Patterns.{less_no_nan}
use Rattle.num_root.proofs.just_below.Goals as goal

pub float_to_bits-bits : goal.float_to_bits-bits
float_to_bits-bits c = less_no_nan c.args.y _ (subst T (sym c.if-y.true) tt)
