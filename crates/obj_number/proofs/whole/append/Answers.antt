-- `obj_number::whole::append` meets its contract.
use Rattle.obj_number.specs.Whole.{capped}
use Rattle.obj_number.proofs.WholeLaws.{digit_from, digit_to}
use native.Mathlib.Omega.{arith}
use Rattle.obj_number.proofs.whole.append.Goals as goal

pub overflow_mul-result : goal.overflow_mul-result
overflow_mul-result c = omega (arith, c.if-n-lt922337203685477580.true)

pub overflow_sub-result : goal.overflow_sub-result
overflow_sub-result c = digit_from c.args.b c.requires

pub overflow_add-result : goal.overflow_add-result
overflow_add-result c = omega (arith, digit_to c.args.b c.requires, c.if-n-lt922337203685477580.true)

pub returns-then-n-lt922337203685477580 : goal.returns-then-n-lt922337203685477580
unfolding capped
returns-then-n-lt922337203685477580 c = omega (arith, digit_from c.args.b c.requires, digit_to c.args.b c.requires, c.if-n-lt922337203685477580.true)

pub overflow_sub-more : goal.overflow_sub-more
overflow_sub-more c = digit_from c.args.b c.requires

pub returns-then-more-lt-CAP : goal.returns-then-more-lt-CAP
unfolding capped
returns-then-more-lt-CAP c = omega arith

pub returns-else-more-lt-CAP : goal.returns-else-more-lt-CAP
unfolding capped
returns-else-more-lt-CAP c = omega arith

pub returns-else-n-lt1152921504606846976 : goal.returns-else-n-lt1152921504606846976
unfolding capped
returns-else-n-lt1152921504606846976 c = omega arith
