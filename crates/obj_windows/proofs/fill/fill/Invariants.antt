-- `obj_windows::fill::fill` meets its contract: the corners that name a vertex passed have its coordinates.
use Prim.Native.Nat.{◌+◌, ◌-◌}
use lib.ListN.{length}
use Rattle.obj_windows.proofs.FillLaws.{Filling}
use Rattle.obj_windows.proofs.fill.fill.Given as goal

abbrev pub invariant-loop-at : goal.invariant-loop-at
invariant-loop-at l = Filling l.text l.numbers l.used l.at l.base l.xs l.ys l.zs l.cx l.cy l.cz

abbrev pub decreases-loop-at : goal.decreases-loop-at
decreases-loop-at l = length l.text + 1 - l.at
