-- `fault_merge::same::hash` meets its contract: what is left, hashed now, gives the whole.
use Rattle.std.proofs.Common.{arith}
use Rattle.fault_merge.proofs.HashLaws.{hash_below, hash_start, hash_step, hash_end}
use Rattle.fault_merge.proofs.same.hash.Goals as goal

pub loop-x-init : goal.loop-x-init
loop-x-init c = (omega arith, hash_start _)

pub loop-x-preserved : goal.loop-x-preserved
loop-x-preserved c = (hash_below _, hash_step _ c.loop-x.x-index c.loop-x.h _ c.loop-x-test.true c.loop-x.invariant.1)

pub returns : goal.returns
returns c = hash_end _ c.loop-x.x-index c.loop-x.h _ c.loop-x-test.false c.loop-x.invariant.1
