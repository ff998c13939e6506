-- `round_hole::hole::some_between` meets its contract.
use Rattle.round_hole.specs.Work.{None}
use Rattle.round_hole.proofs.hole.some_between.Given as goal

abbrev pub invariant-loop-i : goal.invariant-loop-i
invariant-loop-i l = None l.cells l.a l.lo l.i
