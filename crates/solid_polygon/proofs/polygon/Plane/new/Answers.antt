-- `solid_polygon::polygon::Plane::new` meets its contract.
use Rattle.solid_polygon.specs.Polygon.{plane_centroid}
use Rattle.solid_polygon.specs.Plane.{normal_of, plane_of}
use Rattle.solid_polygon.proofs.polygon.Plane.new.Goals as goal

pub returns : goal.returns
unfolding plane_of normal_of plane_centroid
returns c = cc
