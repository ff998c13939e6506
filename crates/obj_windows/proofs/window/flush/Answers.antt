-- `obj_windows::window::flush` meets its contract: corner by corner.
use Rattle.obj_windows.proofs.WindowLaws.{passed_none, passed_more, passed_all}
use native.Mathlib.Omega.{arith}
use Rattle.obj_windows.proofs.window.flush.Goals as goal

pub loop-c-init : goal.loop-c-init
loop-c-init c = passed_none _ _ _ _ _

pub loop-c-preserved : goal.loop-c-preserved
loop-c-preserved c = passed_more c.loop-c.invariant _ (omega (arith, c.loop-c.invariant.long)) c.pick.ensures

pub returns : goal.returns
returns c = passed_all c.loop-c.invariant c.args.used c.loop-c-test.false
