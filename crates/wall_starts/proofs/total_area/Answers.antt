-- `wall_starts::total_area` meets its contract.
use native.Mathlib.Omega.{arith}
use Rattle.wall_starts.proofs.KeptLaws.{total_none, total_more, total_all}
use Rattle.wall_starts.proofs.total_area.Goals as goal

pub loop-f-init : goal.loop-f-init
loop-f-init c = total_none _

pub loop-f-preserved : goal.loop-f-preserved
loop-f-preserved c =
    let test = c.loop-f-test.true in
    total_more _ _ _ (omega (arith, test, c.requires)) c.loop-f.invariant

pub returns : goal.returns
returns c = total_all _ _ _ _ c.loop-f.auto.f-end c.loop-f-test.false c.loop-f.invariant
