-- `solid_boxes::boxes::put_boxes` meets its contract.
use mathlib.Core.Path.{◌≡◌}
use lib.ListN.{length}
use Rattle.file_part.specs.Part.{part_of}
use Rattle.solid_boxes.specs.Bounds.{padded, own_box_of}
use Rattle.solid_boxes.specs.Work.{Started, Filled}
use Rattle.solid_boxes.proofs.boxes.put_boxes.Given as goal

abbrev pub invariant-loop-i : goal.invariant-loop-i
invariant-loop-i l = (length l.boxes ≡ length l.initial.boxes) × ((length l.words ≡ length l.initial.words) × (Started l.words l.n l.m × Filled (λ p. padded (own_box_of (part_of l.file) p)) l.boxes l.words l.n l.m l.i))
