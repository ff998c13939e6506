-- `solid_polygon::polygon::newell_step` meets its contract.
use mathlib.Core.Path.{refl}
use Rattle.solid_polygon.specs.Polygon.{newell_step}
use Rattle.solid_polygon.proofs.polygon.newell_step.Goals as goal

pub returns : goal.returns
unfolding newell_step
returns c = refl
