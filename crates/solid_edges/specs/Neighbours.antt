-- `neighbours` of dfm.rs: the faces that a face has an edge with, in rising order of their ids. Definitions only.
-- A face or none is one number: 0 is none, and g + 1 is face g.
use Rattle.std.specs.Prelude.{◌≡◌, Bool, true, false, ◌&&◌, ◌||◌, cond, ℕ, zero, suc, ◌-◌, ◌<◌, eqb}
use Rattle.list_laws.specs.Below.{lowest_below}
use Rattle.file_part.specs.Part.{Part}
use Rattle.solid_ids.specs.Ids.{face_before}
use Rattle.solid_edges.specs.Edges.{is_edge_of_word, other_face, is_between}

-- face g comes past `after`, in the order of ids
unfoldable pub is_past : Part → ℕ → ℕ → Bool
is_past t after g = eqb after 0 || face_before t (after - 1) g

-- edge s leads from face f to a face past `after`
unfoldable pub is_wanted : Part → ℕ → ℕ → ℕ → Bool
is_wanted t f after s = is_edge_of_word t f s && is_past t after (other_face t f s)

-- face g comes before the best yet
unfoldable pub is_better : Part → ℕ → ℕ → Bool
is_better t best g = eqb best 0 || face_before t g (best - 1)

-- of the wanted edges below n, the face of the lowest id
unfoldable pub neighbour_to : Part → ℕ → ℕ → ℕ → ℕ
neighbour_to t f after zero = 0
neighbour_to t f after (suc s) =
    cond (is_wanted t f after s && is_better t (neighbour_to t f after s) (other_face t f s)) (suc (other_face t f s)) (neighbour_to t f after s)

-- the neighbour of face f that comes next after `after`
unfoldable pub next_neighbour : Part → ℕ → ℕ → ℕ
next_neighbour t f after = neighbour_to t f after t.vertices

-- ---- the same, with nothing computed
-- face g is the neighbour of f past `after` of the lowest id
pub record NextNeighbour (t : Part) (f after g : ℕ) : Type 0 where
  pub edge : ℕ
  pub below : edge < t.vertices
  pub wanted : is_wanted t f after edge ≡ true
  pub leads : other_face t f edge ≡ g
  pub least : (s : ℕ) → s < t.vertices → is_wanted t f after s ≡ true → face_before t (other_face t f s) g ≡ false

-- the first edge between faces f and g, in the order of the shared segments; V where there is none
unfoldable pub first_between : Part → ℕ → ℕ → ℕ
first_between t f g = lowest_below t.vertices (is_between t f g)
