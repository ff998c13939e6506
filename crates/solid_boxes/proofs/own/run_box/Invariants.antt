-- `solid_boxes::own::run_box` meets its contract.
use mathlib.Core.Path.{◌≡◌}
use Rattle.solid_faces.specs.solid_polygon.specs.Work.{corner_at}
use Rattle.solid_boxes.specs.Bounds.{hull_of}
use Rattle.solid_boxes.proofs.own.run_box.Given as goal

abbrev pub invariant-loop-k : goal.invariant-loop-k
invariant-loop-k l = l.b ≡ hull_of (corner_at l.file l.first) l.k
