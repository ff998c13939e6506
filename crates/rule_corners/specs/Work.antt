-- What the functions of this crate leave on the way. A reader may pass over it.
use Rattle.std.specs.Prelude.{◌≡◌, true, false, List, ℕ, ◌+◌, ◌<◌, ◌*◌, ◌≤◌, get_or, length, Option, Some, None, Float}
use Rattle.std.specs.Float.{nan}
use Rattle.list_laws.specs.Region.{part, Outside}
use Rattle.list_groups.specs.Groups.{passing}
use Rattle.list_groups.specs.Work.{RunEnds, WholeIs}
use Rattle.file_part.specs.Part.{Part, part_of}
use Rattle.solid_faces.specs.Faces.{faces_of}
use Rattle.solid_segments.specs.Sides.{owner_of}
use Rattle.solid_edges.specs.Edges.{face_of_side, face_beyond, is_edge_of}
use Rattle.scratch.specs.declared.regions.Regions.{Regions}
use Rattle.scratch.specs.Standing.{Standing}
use Rattle.solid_ranks.specs.Kept.{Ranked}
use Rattle.solid_ranks.specs.Ranks.{rank_of}
use Rattle.solid_pairs.specs.Pairs.{lower, higher}
use Rattle.solid_pairs.specs.Work.{PairsSorted, PairsTo}
use Rattle.fault_row.specs.declared.flaw.Flaw.{Flaw}
use Rattle.fault_row.specs.Flaws.{FlawsPut}
use Rattle.fault_text.specs.Good.{Good}
use Rattle.rule_corners.specs.declared.corner.Counts.{Counts}
use Rattle.rule_corners.specs.declared.corner.NextCorner.{NextCorner}
use Rattle.rule_corners.specs.declared.segment.Sides.{Sides}
use Rattle.rule_corners.specs.declared.segment.Between.{Between}
use Rattle.rule_corners.specs.declared.corner.Two.{Two}
use Rattle.rule_corners.specs.declared.sharp.Group.{Group}
use Rattle.rule_corners.specs.Corners.{corner_count, corner_side, near_face, far_face, polygon_beyond, is_corner, corner_of_word, lower_normal, higher_normal}
use Rattle.rule_corners.specs.Sharp.{sharp_corner}

-- ---- the corners by pairs of faces in the lent scratch, and the walk over the pairs
pub record Counted (t : Part) (counts : Counts) : Type 0 where
  pub faces : counts.faces ≡ faces_of t
  pub corners : counts.corners ≡ corner_count t

-- ---- the corners, sorted by their pairs
-- their keys, and their numbers in order
abbrev pub corner_keys : Regions → List Float → List Float
corner_keys at reals = part at.directions at.free reals

abbrev pub corner_order : Regions → List ℕ → List ℕ
corner_order at words = part at.sorted at.chain words

-- all that the walk asks for
pub record CornersOrdered (s : List ℕ) (at : Regions) (words : List ℕ) (reals : List Float) : Type 0 where
  pub standing : Standing s at words reals
  -- the shared segments are put
  pub edged : at.segments ≡ true
  pub ranked : Ranked (part_of s) at words
  pub sides : (k : ℕ) → k < corner_count (part_of s) → get_or words (at.items + k) 0 ≡ corner_side (part_of s) k
  pub sorted : PairsSorted (part_of s) (near_face (part_of s)) (far_face (part_of s)) (corner_count (part_of s)) (corner_keys at reals) (corner_order at words)

-- how many there are; nothing else changed
pub record CornersPut (s : List ℕ) (at : Regions) (words words' : List ℕ) (reals reals' : List Float) (r : ℕ) : Type 0 where
  pub count : r ≡ corner_count (part_of s)
  pub ordered : CornersOrdered s at words' reals'
  pub words_kept : Outside 0 at.items at.chain words words'
  pub reals_kept : Outside nan at.directions at.free reals reals'

-- ---- the walk
-- at place i of the order, where the corners of a pair start, it has met `out`
unfoldable pub CornersMet : {X : Type 0} → Part → (ℕ → ℕ → List ℕ → List X) → ℕ → List X → Type 0
CornersMet t h i out = PairsTo t (near_face t) (far_face t) (corner_count t) h i out

-- the two faces of the corner at place i, and where the corners between them end. `next_corner` of the laws: from i to there the walk meets
-- these two faces with these corners
pub record NextCornerIs (t : Part) (at : Regions) (words : List ℕ) (reals : List Float) (i : ℕ) (r : NextCorner) : Type 0 where
  pub run : RunEnds (corner_keys at reals) (corner_order at words) (corner_count t) i r.end
  pub first : r.first ≡ lower t (near_face t (get_or (corner_order at words) i 0)) (far_face t (get_or (corner_order at words) i 0))
  pub second : r.second ≡ higher t (near_face t (get_or (corner_order at words) i 0)) (far_face t (get_or (corner_order at words) i 0))
  pub first_below : r.first < faces_of t
  pub second_below : r.second < faces_of t

-- ---- on the way
-- the two polygons of segment s
pub record SidesOf (t : Part) (s : ℕ) (r : Sides) : Type 0 where
  pub polygon_is : r.polygon ≡ owner_of t s
  pub beyond_is : r.beyond ≡ polygon_beyond t s
  pub polygon_below : r.polygon < t.polygons
  pub beyond_below : r.beyond < t.polygons

-- a corner between its two faces, or none
unfoldable pub FoundIs : Part → ℕ → Option Between → Type 0
FoundIs t s (Some b) = (is_corner t s ≡ true) × (b.near ≡ face_of_side t s) × (b.far ≡ face_beyond t s)
FoundIs t s None = is_corner t s ≡ false

-- ---- the search
-- the key of a segment's pair of faces
unfoldable pub segment_key : Part → ℕ → ℕ
segment_key t s = rank_of t (lower t (face_of_side t s) (face_beyond t s)) * faces_of t + rank_of t (higher t (face_of_side t s) (face_beyond t s))

-- the m corners of the segments below s are kept, with their keys
pub record CornersTo (t : Part) (at : Regions) (s m : ℕ) (words : List ℕ) (reals : List Float) : Type 0 where
  pub count : m ≡ length (passing (is_corner t) s)
  pub sides : (k : ℕ) → k < m → get_or words (at.items + k) 0 ≡ get_or (passing (is_corner t) s) k 0
  pub keys : (k : ℕ) → k < m → WholeIs (segment_key t (get_or (passing (is_corner t) s) k 0)) (get_or reals (at.directions + k) nan)

-- one segment more
pub record CornerPut (t : Part) (at : Regions) (s m : ℕ) (words words' : List ℕ) (reals reals' : List Float) (r : ℕ) : Type 0 where
  pub more : CornersTo t at s m words reals → CornersTo t at (s + 1) r words' reals'
  pub few : r ≤ m + 1
  pub words_kept : Outside 0 at.items at.sorted words words'
  pub reals_kept : Outside nan at.directions at.free reals reals'

-- all segments
pub record AllPut (s : List ℕ) (at : Regions) (words words' : List ℕ) (reals reals' : List Float) (r : ℕ) : Type 0 where
  pub put : CornersTo (part_of s) at (part_of s).vertices r words' reals'
  pub few : r ≤ at.vertices
  pub words_kept : Outside 0 at.items at.sorted words words'
  pub reals_kept : Outside nan at.directions at.free reals reals'

-- ---- a corner in its place
-- the side of the corner at place j of the order; it is one of an edge
pub record SideAt (t : Part) (at : Regions) (words : List ℕ) (j r : ℕ) : Type 0 where
  pub side : r ≡ corner_side t (get_or (corner_order at words) j 0)
  pub below : r < t.vertices
  pub edge : is_edge_of t r ≡ true

-- the two normals of segment s
pub record Normals (t : Part) (s : ℕ) (r : Two) : Type 0 where
  pub low_is : r.low ≡ lower_normal t s
  pub high_is : r.high ≡ higher_normal t s

-- ---- the rule
-- two faces and some places of the order
pub record GroupThere (t : Part) (g : Group) : Type 0 where
  pub first_below : g.first < faces_of t
  pub second_below : g.second < faces_of t
  pub some : g.from < g.end
  pub inside : g.end ≤ corner_count t
  pub few : g.before < 4294967296

-- a walk at place i has met these faults, and they are put
pub record SharpTo (t : Part) (i from k : ℕ) (cells cells' : List ℕ) (numbers numbers' : List Float) : Type 0 where
  pub out : List Flaw
  pub met : CornersMet t (λ f g l. sharp_corner t f g (corner_of_word t l)) i out
  pub put : FlawsPut (Good t) from out cells cells' numbers numbers' k
