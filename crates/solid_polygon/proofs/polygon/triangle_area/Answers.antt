-- `solid_polygon::polygon::triangle_area` meets its contract.
use Rattle.solid_polygon.proofs.CornerLaws.{triangle}
use Rattle.solid_polygon.proofs.polygon.triangle_area.Goals as goal

pub returns : goal.returns
returns c = triangle _ _ _ _ _ _ _ _ _ _ c.corner-origin.ensures c.corner.ensures c.sub-a.ensures c.corner-2.ensures c.sub-b.ensures c.cross.ensures c.length.ensures
