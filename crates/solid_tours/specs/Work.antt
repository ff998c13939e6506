-- What the functions of this crate leave on the way. A reader may pass over it.
pub mod Kept
use Rattle.std.specs.Prelude.{false, Bool, not, cond, List, [], ◌∷◌, ◌≡◌, ℕ, ◌+◌, ◌*◌, ◌≤◌, ◌<◌, Float, ltb, length, get_or}
use Rattle.std.specs.Float.{inf, nan}
use Rattle.std.specs.Float.Ieee.{lt}
use Rattle.num_float.specs.Order.{lesser}
use Rattle.num_root.specs.Root.{root}
use Rattle.math.specs.declared.Vec3.{Vec3}
use Rattle.list_laws.specs.Region.{Outside}
use Rattle.list_groups.specs.Groups.{passing}
use Rattle.list_groups.specs.Work.{WholeIs}
use Rattle.file_part.specs.Part.{Part, part_of}
use Rattle.solid_faces.specs.Faces.{faces_of}
use Rattle.solid_distance.specs.Work.{segment_at_of}
use Rattle.solid_reach.specs.declared.reach.Reach.{Reach}
use Rattle.solid_reach.specs.Work.{Holds, gap_square, reach_at}
use Rattle.solid_edges.specs.Edges.{face_of_side, face_beyond, is_edge_of}
use Rattle.solid_edges.specs.Work.{side_square}
use Rattle.scratch.specs.declared.regions.Regions.{Regions}
use Rattle.solid_ranks.specs.Ranks.{rank_of}
use Rattle.solid_tours.specs.Work.Kept.{item_count, packed_at, OrderedTo, EdgesSorted}

-- ---- distances
-- the least of x and the squared distances of point p from these edges
unfoldable pub least_square : Part → Vec3 → Float → List ℕ → Float
least_square t p x [] = x
least_square t p x (s ∷ l) = least_square t p (lesser x (side_square t p s)) l

-- the least distance of point p from these edges; infinity from none
unfoldable pub least_distance : Part → Vec3 → List ℕ → Float
least_distance t p l = root (least_square t p (inf false) l)

-- ---- on the way
-- the keys of an edge under its own face, and under the face beyond
unfoldable pub near_key_of : Part → ℕ → ℕ
near_key_of t s = rank_of t (face_of_side t s) * faces_of t + rank_of t (face_beyond t s)

unfoldable pub far_key_of : Part → ℕ → ℕ
far_key_of t s = rank_of t (face_beyond t s) * faces_of t + rank_of t (face_of_side t s)

-- the edges below s are kept, twice each, as m items
pub record EdgesTo (t : Part) (at : Regions) (s m : ℕ) (words : List ℕ) (reals : List Float) : Type 0 where
  pub count : m ≡ 2 * length (passing (is_edge_of t) s)
  pub near_side : (e : ℕ) → e < length (passing (is_edge_of t) s) → get_or words (at.items + 2 * e) 0 ≡ get_or (passing (is_edge_of t) s) e 0
  pub far_side : (e : ℕ) → e < length (passing (is_edge_of t) s) → get_or words (at.items + (2 * e + 1)) 0 ≡ get_or (passing (is_edge_of t) s) e 0
  pub near_key : (e : ℕ) → e < length (passing (is_edge_of t) s) → WholeIs (near_key_of t (get_or (passing (is_edge_of t) s) e 0)) (get_or reals (at.directions + 2 * e) nan)
  pub far_key : (e : ℕ) → e < length (passing (is_edge_of t) s) → WholeIs (far_key_of t (get_or (passing (is_edge_of t) s) e 0)) (get_or reals (at.directions + (2 * e + 1)) nan)

-- one side more
pub record EdgePut (t : Part) (at : Regions) (s m : ℕ) (words words' : List ℕ) (reals reals' : List Float) (r : ℕ) : Type 0 where
  pub more : EdgesTo t at s m words reals → EdgesTo t at (s + 1) r words' reals'
  pub words_kept : Outside 0 at.items at.sorted words words'
  pub reals_kept : Outside nan at.directions at.free reals reals'

-- all sides
pub record AllPut (s : List ℕ) (at : Regions) (words words' : List ℕ) (reals reals' : List Float) (r : ℕ) : Type 0 where
  pub put : EdgesTo (part_of s) at (part_of s).vertices r words' reals'
  pub words_kept : Outside 0 at.items at.sorted words words'
  pub reals_kept : Outside nan at.directions at.free reals reals'

-- they are sorted: the same as `EdgesPut` but that no edge is packed yet
pub record SortedPut (s : List ℕ) (at : Regions) (words words' : List ℕ) (reals reals' : List Float) (r : ℕ) : Type 0 where
  pub count : r ≡ item_count (part_of s)
  pub few : r ≤ at.vertices
  pub sorted : EdgesSorted s at words' reals'
  pub words_kept : Outside 0 at.items at.chain words words'
  pub reals_kept : Outside nan at.directions at.free reals reals'

-- r is around the edges at the places from i to before e
abbrev pub Around : Regions → List Float → ℕ → ℕ → Reach → Type 0
Around at reals i e r = (j : ℕ) → i ≤ j → j < e → Holds r (segment_at_of reals (packed_at at j))

-- r is the lesser of a + 16 and e
pub record RunEnd (a e r : ℕ) : Type 0 where
  pub short : r ≤ a + 16
  pub inside : r ≤ e
  pub all : (j : ℕ) → j < a + 16 → j < e → j < r

-- box b of `count` boxes is no nearer to p than the square x
unfoldable pub is_spared : List Float → ℕ → ℕ → Vec3 → Float → ℕ → Bool
is_spared reals count b p x place = cond (ltb b count) (not (lt (gap_square p (reach_at reals place)) x)) false

-- the edges at the first k places are packed
pub record PackedPut (s : List ℕ) (at : Regions) (words : List ℕ) (reals reals' : List Float) (k : ℕ) : Type 0 where
  pub ordered : OrderedTo s at words reals' k 0
  pub kept : Outside nan at.free at.reals reals reals'

-- all are, and the first n boxes are put
pub record BoxesPut (s : List ℕ) (at : Regions) (words : List ℕ) (reals reals' : List Float) (n : ℕ) : Type 0 where
  pub ordered : OrderedTo s at words reals' (item_count (part_of s)) n
  pub kept : Outside nan at.free at.reals reals reals'
