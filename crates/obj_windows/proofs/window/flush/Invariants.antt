-- `obj_windows::window::flush` meets its contract: corner by corner.
use Rattle.obj_windows.proofs.WindowLaws.{Passed}
use Rattle.obj_windows.proofs.window.flush.Given as goal

abbrev pub invariant-loop-c : goal.invariant-loop-c
invariant-loop-c l = Passed l.numbers l.c l.base l.slots l.count l.initial.corners l.corners
