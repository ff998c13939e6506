-- What private functions leave on the way; a reader may pass over it. Definitions only.
use Rattle.std.specs.Prelude.{◌≡◌, true, false, cond, Option, Some, None, List, ℕ, suc, zero, Float, eqb}
use Rattle.math.specs.declared.Vec3.{Vec3}
use Rattle.math.specs.Vector.{minus, length_sq_of}
use Rattle.file_part.specs.Part.{Part, part_of}
use Rattle.solid_segments.specs.Sides.{to_of, SharedSegments}
use Rattle.solid_distance.specs.Segment.{nearest_on}
use Rattle.solid_ids.specs.Work.{KnownFaces}
use Rattle.solid_edges.specs.declared.edge.Edge.{Edge}
use Rattle.solid_edges.specs.Edges.{face_of_side, face_beyond, is_edge_of, is_edge_of_word, other_face}
use Rattle.solid_edges.specs.Neighbours.{next_neighbour}

-- ---- what the code answers of a side
-- whether it is an edge, and then its own face and the face beyond
unfoldable pub EdgeIs : Part → ℕ → Option Edge → Type 0
EdgeIs t s (Some e) = (is_edge_of t s ≡ true) × (e.near ≡ face_of_side t s) × (e.beyond ≡ face_beyond t s)
EdgeIs t s None = is_edge_of t s ≡ false

-- the face that it leads to from face f, if any
unfoldable pub leads_to : Part → ℕ → ℕ → Option ℕ
leads_to t f s = cond (is_edge_of_word t f s) (Some (other_face t f s)) None

-- ---- beside Distance.antt
-- the square of the distance of point p from the segment of side s
unfoldable pub side_square : Part → Vec3 → ℕ → Float
side_square t p s = length_sq_of (minus (nearest_on p (t.vertex s) (t.vertex (to_of t s))) p)

-- ---- beside Neighbours.antt
-- the neighbours of face f, one after the other: the first, and the next after each; 0 past the last
unfoldable pub neighbour_at : Part → ℕ → ℕ → ℕ
neighbour_at t f zero = next_neighbour t f 0
neighbour_at t f (suc k) = cond (eqb (neighbour_at t f k) 0) 0 (next_neighbour t f (neighbour_at t f k))

-- ---- what a scan over the sides reads
-- an accepted file, its faces and its sides
pub record Lent (file sides faces : List ℕ) : Type 0 where
  pub faced : KnownFaces file faces
  pub shared : SharedSegments (part_of file) sides
