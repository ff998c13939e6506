-- `obj_windows::fill::load` meets its contract: the window holds the vertices of the lines passed.
use Prim.Native.Nat.{◌+◌, ◌-◌}
use lib.ListN.{length}
use Rattle.obj_windows.proofs.FillLaws.{Loading}
use Rattle.obj_windows.proofs.fill.load.Given as goal

abbrev pub invariant-loop-at : goal.invariant-loop-at
invariant-loop-at l = Loading l.text l.from l.xs l.ys l.zs l.at l.n

abbrev pub decreases-loop-at : goal.decreases-loop-at
decreases-loop-at l = length l.text + 1 - l.at
