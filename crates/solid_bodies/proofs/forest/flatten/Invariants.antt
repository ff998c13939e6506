-- `solid_bodies::forest::flatten` meets its contract: a parent's label stands before it is asked.
use Rattle.solid_bodies.proofs.ForestLaws.{Partly}
use Rattle.solid_bodies.proofs.forest.flatten.Given as goal

abbrev pub invariant-loop-i : goal.invariant-loop-i
invariant-loop-i l = Partly l.initial.parents l.parents l.i
