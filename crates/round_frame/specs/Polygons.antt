-- The extent, the votes and the directions of a cylindrical face, over its polygons. Definitions only.
use Rattle.std.specs.Prelude.{cond, List, [], ◌++◌, ℕ, zero, suc, eqb, Float}
use Rattle.std.specs.Float.{binary64}
use Rattle.std.specs.Float.Ieee.{add}
use Rattle.math.specs.Vector as vector
use Rattle.file_part.specs.Part.{Part}
use Rattle.solid_polygon.specs.Polygon.{centroid_of}
use Rattle.solid_faces.specs.Faces.{face_number, polygon_corner, polygon_plane, polygon_area}
use Rattle.round_hole.specs.declared.direction.Direction.{Direction}
use Rattle.round_frame.specs.declared.frame.Frame.{Frame}
use Rattle.round_frame.specs.declared.extent.Extent.{Extent}
use Rattle.round_frame.specs.Frame.{nowhere, run_extent, vote_of, run_directions}

-- ---- over the polygons of face f that are below n, rising: each step adds polygon q, where it is of face f
unfoldable pub extent_with : Part → ℕ → Frame → ℕ → Extent → Extent
extent_with t f a q e = cond (eqb (face_number t q) f) (run_extent a (polygon_corner t q) e (t.polygon q).count) e

unfoldable pub extent_to : Part → ℕ → Frame → ℕ → Extent
extent_to t f a zero = nowhere
extent_to t f a (suc n) = extent_with t f a n (extent_to t f a n)

-- polygon p's part in the votes: its normal, dfm.rs's own centroid, and its area
unfoldable pub polygon_vote : Part → Frame → ℕ → Float
polygon_vote t a p = vote_of a (polygon_plane t p).normal (centroid_of (polygon_corner t p) (t.polygon p).count) (polygon_area t p)

unfoldable pub votes_with : Part → ℕ → Frame → ℕ → Float → Float
votes_with t f a q votes = cond (eqb (face_number t q) f) (add binary64 votes (polygon_vote t a q)) votes

unfoldable pub votes_to : Part → ℕ → Frame → ℕ → Float
votes_to t f a zero = vector.zero
votes_to t f a (suc n) = votes_with t f a n (votes_to t f a n)

unfoldable pub directions_with : Part → ℕ → Frame → ℕ → List Direction → List Direction
directions_with t f a q before = cond (eqb (face_number t q) f) (before ++ run_directions a (polygon_corner t q) (t.polygon q).count) before

unfoldable pub directions_to : Part → ℕ → Frame → ℕ → List Direction
directions_to t f a zero = []
directions_to t f a (suc n) = directions_with t f a n (directions_to t f a n)
