-- `obj_windows::fill::unnamed` meets its contract: the gap is that of the numbers passed.
use Rattle.obj_windows.specs.Work.{Unnamed}
use Rattle.obj_windows.proofs.fill.unnamed.Given as goal

abbrev pub invariant-loop-number : goal.invariant-loop-number
invariant-loop-number l = Unnamed l.numbers l.number-index l.base l.gap
