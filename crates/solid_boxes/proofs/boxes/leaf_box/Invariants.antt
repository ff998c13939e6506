-- `solid_boxes::boxes::leaf_box` meets its contract.
use Rattle.file_part.specs.Part.{part_of}
use Rattle.solid_boxes.specs.Bounds.{padded, own_box_of}
use Rattle.solid_boxes.specs.Tree.{at}
use Rattle.solid_boxes.specs.Work.{Covers}
use Rattle.solid_boxes.proofs.boxes.leaf_box.Given as goal

abbrev pub invariant-loop-x : goal.invariant-loop-x
invariant-loop-x l = Covers (λ p. padded (own_box_of (part_of l.file) p)) (at l.words) l.a l.x l.b
