-- Sizes of what a part's polygons and faces have. Definitions only.
use Rattle.std.specs.Prelude.{ℕ, T, Float}
use Rattle.std.specs.Float.{binary64}
use Rattle.std.specs.Float.Ieee.{fits}
use Rattle.num_float.specs.Sign.{NonNeg}
use Rattle.num_float.specs.Within.{Within}
use Rattle.math.specs.declared.Vec3.{Vec3}
use Rattle.math.specs.Size.{VecWithin}
use Rattle.file_part.specs.Part.{Part}
use Rattle.solid_polygon.specs.Polygon.{centroid_of}
use Rattle.solid_faces.specs.Faces.{polygon_corner, polygon_plane}

-- what an area is: finite, not negative, and at most b
pub record Area (x : Float) (b : ℕ) : Type 0 where
  pub within : Within x b
  pub nonneg : NonNeg x

-- each component is an f64
pub record VecFits (v : Vec3) : Type 0 where
  pub x_fits : T (fits binary64 v.x)
  pub y_fits : T (fits binary64 v.y)
  pub z_fits : T (fits binary64 v.z)

-- the numbers of polygon p: its plane, and dfm.rs's own centroid
pub record PlaneWithin (t : Part) (p : ℕ) : Type 0 where
  pub normal : VecWithin (polygon_plane t p).normal 1
  pub normal_fits : VecFits (polygon_plane t p).normal
  pub w : Within (polygon_plane t p).w 30000
  pub centroid : VecWithin (centroid_of (polygon_corner t p) (t.polygon p).count) 10001
