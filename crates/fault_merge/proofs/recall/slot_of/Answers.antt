-- `fault_merge::recall::slot_of` meets its contract: a place past the end.
use native.Mathlib.Omega.{arith}
use Prim.Native.Nat.{◌+◌}
use Rattle.fault_merge.proofs.RecallLaws.{rest_low}
use Rattle.fault_merge.proofs.recall.slot_of.Goals as goal

pub returns-then-n-end : goal.returns-then-n-end
returns-then-n-end c = c.requires

pub overflow_sub-cells : goal.overflow_sub-cells
overflow_sub-cells c = c.requires

pub overflow_add-result : goal.overflow_add-result
overflow_add-result c = omega (arith, c.mixed.ensures, c.mixed-2.ensures)

pub nonzero_rem-result : goal.nonzero_rem-result
nonzero_rem-result c = omega (arith, c.if-n-end.false)

pub overflow_add-result-2 : goal.overflow_add-result-2
overflow_add-result-2 c = omega (arith, rest_low (c.mixed.result + c.mixed-2.result) c.args.n c.args.end c.if-n-end.false)

pub returns : goal.returns
returns c = omega arith
