-- `solid_tours::boxes::put_boxes` meets its contract: the boxes passed are put.
use Rattle.solid_tours.specs.Work.{BoxesPut}
use Rattle.solid_tours.proofs.boxes.put_boxes.Given as goal

abbrev pub invariant-loop-b : goal.invariant-loop-b
invariant-loop-b l = BoxesPut l.file l.at l.words l.initial.reals l.reals l.b
