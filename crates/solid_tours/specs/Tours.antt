-- The edges of each face, by rising ids of the faces that they lead to, and in the order of the shared segments where they lead to one face.
-- Definitions only. An edge has the number of the first of its two sides, as in crate solid_edges, whose definitions these follow: `edges_between`
-- begins with `first_between`, and `neighbours_of` is `neighbour_at` asked from 0 on.
use Rattle.std.specs.Prelude.{List, [], ◌∷◌, ℕ}
use Rattle.list_groups.specs.Groups.{joined, unless_empty, passing}
use Rattle.file_part.specs.Part.{Part}
use Rattle.solid_faces.specs.Faces.{faces_of}
use Rattle.solid_ranks.specs.Ranks.{face_of_rank}
use Rattle.solid_edges.specs.Edges.{is_between}

-- the edges between faces f and g, in the order of the shared segments
unfoldable pub edges_between : Part → ℕ → ℕ → List ℕ
edges_between t f g = passing (is_between t f g) t.vertices

-- every face is tried, by rising ids; what h makes of each that face f has an edge with, and of those edges
unfoldable pub over_neighbours : {X : Type 0} → Part → ℕ → (ℕ → List ℕ → List X) → List X
over_neighbours t f h =
    joined (λ r. unless_empty (edges_between t f (face_of_rank t r)) (h (face_of_rank t r) (edges_between t f (face_of_rank t r)))) (faces_of t)

-- the neighbours of face f
unfoldable pub neighbours_of : Part → ℕ → List ℕ
neighbours_of t f = over_neighbours t f (λ g l. g ∷ [])

-- all edges of face f
unfoldable pub edges_of : Part → ℕ → List ℕ
edges_of t f = over_neighbours t f (λ g l. l)
