-- `wall_starts::gather` meets its contract.
use Rattle.wall_starts.proofs.KeptLaws.{gathered_none, link_rises, gathered_more, gathered_all}
use native.Mathlib.Omega.{arith}
use Rattle.wall_starts.proofs.gather.Goals as goal

pub loop-q-init : goal.loop-q-init
loop-q-init c = gathered_none _ _ _ _ _

pub loop-q-smaller : goal.loop-q-smaller
loop-q-smaller c =
    omega (arith, c.loop-q-test.true, link_rises _ _ _ _ _ _ _ _ c.requires c.loop-q-test.true c.loop-q.invariant)

pub loop-q-preserved : goal.loop-q-preserved
loop-q-preserved c =
    gathered_more _ _ _ _ _ _ _ _ c.requires c.loop-q-test.true c.loop-q.invariant

pub returns : goal.returns
returns c = gathered_all _ _ _ _ _ _ _ _ c.loop-q-test.false c.loop-q.invariant
