-- `solid_tours::boxes::box_of` meets its contract: the edges passed are inside.
use Rattle.solid_tours.specs.Work.{Around}
use Rattle.solid_tours.proofs.boxes.box_of.Given as goal

abbrev pub invariant-loop-j : goal.invariant-loop-j
invariant-loop-j l = Around l.at l.reals l.i l.j l.r
