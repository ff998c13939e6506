-- `solid_polygon::polygon::centroid` meets its contract.
use Rattle.solid_polygon.specs.Polygon.{centroid_of}
use Rattle.solid_polygon.proofs.polygon.centroid.Goals as goal

pub returns : goal.returns
unfolding centroid_of
returns c = cc
