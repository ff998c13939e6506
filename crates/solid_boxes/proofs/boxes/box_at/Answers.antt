-- `solid_boxes::boxes::box_at` meets its contract.
use mathlib.Core.Path.{refl}
use Rattle.solid_boxes.specs.Tree.{box_at}
use Rattle.solid_boxes.proofs.boxes.box_at.Goals as goal

pub returns : goal.returns
unfolding box_at
returns c = refl
