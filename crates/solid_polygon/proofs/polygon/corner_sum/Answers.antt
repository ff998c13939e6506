-- `solid_polygon::polygon::corner_sum` meets its contract.
use Rattle.file_part.specs.math.specs.Vector.{zero_vec}
use Rattle.solid_polygon.proofs.CornerLaws.{corners_none, corners_more}
use Rattle.solid_polygon.proofs.polygon.corner_sum.Goals as goal

pub loop-k-init : goal.loop-k-init
unfolding zero_vec
loop-k-init c = corners_none _ _

pub loop-k-preserved : goal.loop-k-preserved
loop-k-preserved c = corners_more _ _ _ _ _ _ c.loop-k.invariant c.corner.ensures c.add-sum.ensures
