-- The edges of each face in the lent scratch. A reader may pass over it. Definitions only.
use Rattle.std.specs.Prelude.{◌≡◌, true, cond, List, map, ℕ, ◌+◌, ◌-◌, ◌*◌, ◌/◌, ◌%◌, ◌≤◌, ◌<◌, eqb, ltb, Float, length, get_or}
use Rattle.std.specs.Float.{nan}
use Rattle.list_laws.specs.Region.{part, Outside}
use Rattle.list_groups.specs.Groups.{joined, unless_empty, passing}
use Rattle.list_groups.specs.Work.{pair_key, start_of, Keyed, Grouped}
use Rattle.file_part.specs.Part.{Part, part_of}
use Rattle.solid_faces.specs.Faces.{faces_of}
use Rattle.solid_segments.specs.Sides.{to_of}
use Rattle.solid_distance.specs.declared.kept.Segment.{Segment}
use Rattle.solid_distance.specs.Work.{segment_of, segment_at_of}
use Rattle.solid_reach.specs.Work.{Holds, reach_at}
use Rattle.solid_edges.specs.Edges.{face_of_side, face_beyond, is_edge_of}
use Rattle.scratch.specs.declared.regions.Regions.{Regions}
use Rattle.scratch.specs.Standing.{Standing}
use Rattle.solid_ranks.specs.Ranks.{rank_of, face_of_rank}
use Rattle.solid_ranks.specs.Kept.{Ranked}
use Rattle.solid_tours.specs.declared.tour.Edges.{Edges}
use Rattle.solid_tours.specs.declared.tour.Places.{Places}
use Rattle.solid_tours.specs.declared.tour.Group.{Group}
use Rattle.solid_tours.specs.Tours.{edges_between, edges_of}

-- ---- the items: each edge twice, 2e and 2e + 1 for the e-th in the order of the shared segments
unfoldable pub edge_sides : Part → List ℕ
edge_sides t = passing (is_edge_of t) t.vertices

unfoldable pub item_count : Part → ℕ
item_count t = 2 * length (edge_sides t)

unfoldable pub item_side : Part → ℕ → ℕ
item_side t k = get_or (edge_sides t) (k / 2) 0

-- the first is under the edge's own face and leads to the face beyond, and the second the other way round
unfoldable pub item_face : Part → ℕ → ℕ
item_face t k = cond (eqb (k % 2) 0) (face_of_side t (item_side t k)) (face_beyond t (item_side t k))

unfoldable pub item_other : Part → ℕ → ℕ
item_other t k = cond (eqb (k % 2) 0) (face_beyond t (item_side t k)) (face_of_side t (item_side t k))

-- what they are sorted by: keys rise as the ids of the face and then of the other face do
unfoldable pub item_key : Part → ℕ → ℕ
item_key t = pair_key (faces_of t) (λ k. rank_of t (item_face t k)) (λ k. rank_of t (item_other t k))

-- how many come before those with a key of k or more
unfoldable pub key_start : Part → ℕ → ℕ
key_start t k = start_of (item_key t) (item_count t) k

-- ---- where they stand: their keys, and their numbers in order
abbrev pub edge_keys : Regions → List Float → List Float
edge_keys at reals = part at.directions at.free reals

abbrev pub edge_order : Regions → List ℕ → List ℕ
edge_order at words = part at.sorted at.chain words

-- the edges from place i to before place e of the order
unfoldable pub sides_at : Part → Regions → List ℕ → ℕ → ℕ → List ℕ
sides_at t at words i e = map (item_side t) (part i e (edge_order at words))

-- side s as a segment
unfoldable pub side_segment : Part → ℕ → Segment
side_segment t s = segment_of (t.vertex s) (t.vertex (to_of t s))

-- where the segment of the edge at place j is packed, so that a distance from the edges of a face reads them one after the other
abbrev pub packed_at : Regions → ℕ → ℕ
packed_at at j = at.free + 7 * j

-- behind the m segments stand boxes of 16 of them each, as many boxes as there is room for among v sides
unfoldable pub box_count_of : ℕ → ℕ → ℕ
box_count_of m v = cond (ltb (m / 16 + 1) ((7 * (v - m) + 1024) / 6)) (m / 16 + 1) ((7 * (v - m) + 1024) / 6)

abbrev pub box_at : Part → Regions → ℕ → ℕ
box_at t at b = at.free + 7 * item_count t + 6 * b

-- the edges are sorted, those at the first k places are packed, and the first n boxes are put
pub record OrderedTo (s : List ℕ) (at : Regions) (words : List ℕ) (reals : List Float) (k n : ℕ) : Type 0 where
  pub standing : Standing s at words reals
  -- the shared segments are put
  pub edged : at.segments ≡ true
  pub ranked : Ranked (part_of s) at words
  pub sides : (k : ℕ) → k < item_count (part_of s) → get_or words (at.items + k) 0 ≡ item_side (part_of s) k
  pub keyed : Keyed (edge_keys at reals) (item_key (part_of s)) (item_count (part_of s)) (faces_of (part_of s) * faces_of (part_of s))
  pub grouped : Grouped (item_key (part_of s)) (item_count (part_of s)) (faces_of (part_of s) * faces_of (part_of s)) (edge_order at words)
  pub packed : (j : ℕ) → j < k → segment_at_of reals (packed_at at j) ≡ side_segment (part_of s) (item_side (part_of s) (get_or (edge_order at words) j 0))
  -- box b is around the edges at the places from 16b to before 16b + 16
  pub boxed : (b j : ℕ) → b < n → 16 * b ≤ j → j < 16 * b + 16 → j < item_count (part_of s) → Holds (reach_at reals (box_at (part_of s) at b)) (segment_at_of reals (packed_at at j))

abbrev pub EdgesSorted : List ℕ → Regions → List ℕ → List Float → Type 0
EdgesSorted s at words reals = OrderedTo s at words reals 0 0

-- all that a tour asks for
abbrev pub EdgesOrdered : List ℕ → Regions → List ℕ → List Float → Type 0
EdgesOrdered s at words reals = OrderedTo s at words reals (item_count (part_of s)) (box_count_of (item_count (part_of s)) at.vertices)

-- how many items there are; nothing else changed
pub record EdgesPut (s : List ℕ) (at : Regions) (words words' : List ℕ) (reals reals' : List Float) (r : ℕ) : Type 0 where
  pub count : r ≡ item_count (part_of s)
  pub few : r ≤ at.vertices
  pub ordered : EdgesOrdered s at words' reals'
  pub words_kept : Outside 0 at.items at.chain words words'
  pub reals_kept : Outside nan at.directions at.reals reals reals'

-- ---- a tour of the edges of one face
pub record Counted (t : Part) (edges : Edges) : Type 0 where
  pub faces : edges.faces ≡ faces_of t
  pub items : edges.items ≡ item_count t

-- the places of all edges of face f
pub record FacePlaces (t : Part) (at : Regions) (words : List ℕ) (f : ℕ) (r : Places) : Type 0 where
  pub start_is : r.start ≡ key_start t (rank_of t f * faces_of t)
  pub end_is : r.end ≡ key_start t (rank_of t f * faces_of t + faces_of t)
  pub some : r.start ≤ r.end
  pub inside : r.end ≤ item_count t
  pub edges : sides_at t at words r.start r.end ≡ edges_of t f

-- those that are left of them: from the faces of rank `upto` on
pub record RestPlaces (t : Part) (f : ℕ) (r : Places) : Type 0 where
  pub upto : ℕ
  pub low : upto ≤ faces_of t
  pub start_is : r.start ≡ key_start t (rank_of t f * faces_of t + upto)
  pub end_is : r.end ≡ key_start t (rank_of t f * faces_of t + faces_of t)

-- the places of all edges between two faces
pub record GroupPlaces (t : Part) (at : Regions) (words : List ℕ) (g : Group) : Type 0 where
  pub face_below : g.face < faces_of t
  pub other_below : g.other < faces_of t
  pub start_is : g.start ≡ key_start t (rank_of t g.face * faces_of t + rank_of t g.other)
  pub end_is : g.end ≡ key_start t (rank_of t g.face * faces_of t + rank_of t g.other + 1)
  pub some : g.start < g.end
  pub inside : g.end ≤ item_count t
  pub edges : sides_at t at words g.start g.end ≡ edges_between t g.face g.other

-- a tour of the neighbours of face f that is at place i has met `out`. `tour_start`, `tour_more` and `tour_end` of the laws: it begins at the
-- first place of the face, each group adds what h makes of it, and at the end it has met `over_neighbours`
pub record TourTo {X : Type 0} (t : Part) (f : ℕ) (h : ℕ → List ℕ → List X) (i : ℕ) (out : List X) : Type 0 where
  pub upto : ℕ
  pub low : upto ≤ faces_of t
  pub place : i ≡ key_start t (rank_of t f * faces_of t + upto)
  pub met : out ≡ joined (λ r. unless_empty (edges_between t f (face_of_rank t r)) (h (face_of_rank t r) (edges_between t f (face_of_rank t r)))) upto

-- the next neighbour of face f and the edges with it, from the first of the places that are left
pub record NextGroup (t : Part) (at : Regions) (words : List ℕ) (f : ℕ) (rest : Places) (g : Group) : Type 0 where
  pub face_is : g.face ≡ f
  pub from : g.start ≡ rest.start
  pub to : g.end ≤ rest.end
  pub group : GroupPlaces t at words g
  pub left : RestPlaces t f (record { start = g.end; end = rest.end })

-- the edge at place j of the order
pub record ItemAt (t : Part) (at : Regions) (words : List ℕ) (j r : ℕ) : Type 0 where
  pub side : r ≡ item_side t (get_or (edge_order at words) j 0)
  pub below : r < t.vertices
  pub edge : is_edge_of t r ≡ true
