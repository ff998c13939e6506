-- The least distance of a point from edges. Definitions only.
use Rattle.std.specs.Prelude.{Bool, false, cond, ℕ, zero, suc, Float}
use Rattle.std.specs.Float.{inf}
use Rattle.num_real.specs.Select.{min_of}
use Rattle.math.specs.declared.Vec3.{Vec3}
use Rattle.file_part.specs.Part.{Part}
use Rattle.solid_segments.specs.Sides.{to_of}
use Rattle.solid_distance.specs.Segment.{seg_distance}
use Rattle.solid_edges.specs.Edges.{is_edge_of_word, is_between}

-- the distance of point p from the segment of side s
unfoldable pub side_distance : Part → Vec3 → ℕ → Float
side_distance t p s = seg_distance p (t.vertex s) (t.vertex (to_of t s))

-- the least over the sides below n that pass the test; infinity where none does
unfoldable pub distance_to : Part → (ℕ → Bool) → Vec3 → ℕ → Float
distance_to t test p zero = inf false
distance_to t test p (suc s) = cond (test s) (min_of (distance_to t test p s) (side_distance t p s)) (distance_to t test p s)

-- of point p from the edges of face f
unfoldable pub edge_distance : Part → ℕ → Vec3 → Float
edge_distance t f p = distance_to t (is_edge_of_word t f) p t.vertices

-- of point p from the edges between faces f and g
unfoldable pub between_distance : Part → ℕ → ℕ → Vec3 → Float
between_distance t f g p = distance_to t (is_between t f g) p t.vertices
