-- `solid_boxes::bounds::Bounds::widen` meets its contract.
use mathlib.Core.Path.{refl}
use Rattle.solid_boxes.specs.Bounds.{widened}
use Rattle.solid_boxes.proofs.bounds.Bounds.widen.Goals as goal

pub returns : goal.returns
unfolding widened
returns c = refl
