-- `solid_polygon::polygon::poly_area` meets its contract.
use Rattle.solid_polygon.proofs.CornerLaws.{area_none, area_more, area_all}
use Rattle.solid_polygon.proofs.polygon.poly_area.Goals as goal

pub loop-k-init : goal.loop-k-init
loop-k-init c = area_none _ _

pub loop-k-preserved : goal.loop-k-preserved
loop-k-preserved c = area_more _ _ _ _ _ c.loop-k.invariant c.triangle_area-area.ensures

pub returns : goal.returns
returns c = area_all _ _ _ _ _ c.loop-k.auto.k-end c.loop-k-test.false c.loop-k.invariant
