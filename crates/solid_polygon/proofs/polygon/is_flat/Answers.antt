-- `solid_polygon::polygon::is_flat` meets its contract.
use Rattle.solid_polygon.specs.Plane.{is_flat}
use Rattle.solid_polygon.proofs.CornerLaws.{not_flat}
use Rattle.solid_polygon.proofs.polygon.is_flat.Goals as goal

pub returns-then-length_sq : goal.returns-then-length_sq
returns-then-length_sq c = not_flat _ _ _ _ _ c.newell-n.ensures c.length_sq.ensures c.if-length_sq.true

pub returns : goal.returns
unfolding is_flat
returns c = cc
