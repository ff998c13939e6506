-- `obj_number::cut::find` meets its contract: there is no b among the bytes passed.
use Rattle.obj_number.specs.Work.{NoneTo}
use Rattle.obj_number.proofs.cut.find.Given as goal

abbrev pub invariant-loop-i : goal.invariant-loop-i
invariant-loop-i l = NoneTo l.b l.s l.i
