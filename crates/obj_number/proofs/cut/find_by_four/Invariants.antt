-- `obj_number::cut::find_by_four` meets its contract: four bytes at a time.
use Prim.Native.Nat.{◌-◌}
use lib.ListN.{length}
use Rattle.obj_number.specs.Work.{NoneTo}
use Rattle.obj_number.proofs.cut.find_by_four.Given as goal

abbrev pub invariant-loop-i : goal.invariant-loop-i
invariant-loop-i l = NoneTo l.b l.s l.i

abbrev pub decreases-loop-i : goal.decreases-loop-i
decreases-loop-i l = length l.s - l.i
