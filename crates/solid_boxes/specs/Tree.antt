-- A tree of boxes in two lent slices. Its nodes stand in the order in which a walk that opens them all meets them: a node, then what is below its first
-- child, then what is below its second. Node i has the polygons at the places from its start on to before the next node's, and below it are the nodes
-- from i + 1 on to before its skip. Definitions only.
use Rattle.std.specs.Prelude.{◌≡◌, List, ℕ, ◌+◌, ◌*◌, ◌≤◌, ◌<◌, length, get_or, Float}
use Rattle.std.specs.Float.{nan}
use Rattle.math.specs.Vector.{vec}
use Rattle.file_part.specs.Part.{Part}
use Rattle.solid_boxes.specs.declared.bounds.Bounds.{Bounds}
use Rattle.solid_boxes.specs.Bounds.{own_box_of, padded, Holds}

-- ---- the cells that `put_tree` is lent for p polygons: "Scratch grows by 8P f64 values and 4P u32 values"
-- six numbers a node, and at most p nodes; before them three numbers a polygon, by which the polygons are put in order
abbrev pub tree_reals : ℕ → ℕ
tree_reals p = 8 * p

-- the order, p numbers; the starts, one more than the nodes; the skips, one a node
abbrev pub tree_words : ℕ → ℕ
tree_words p = 4 * p

-- ---- what stands in them
abbrev pub at : List ℕ → ℕ → ℕ
at words i = get_or words i 0

-- where the polygons of node i start, of n polygons in all
unfoldable pub start_at : List ℕ → ℕ → ℕ → ℕ
start_at words n i = at words (n + i)

-- the node after all that is below node i
unfoldable pub skip_at : List ℕ → ℕ → ℕ → ℕ
skip_at words n i = at words (2 * n + 1 + i)

-- the box of node i
unfoldable pub box_at : List Float → ℕ → Bounds
box_at boxes i =
    record {
      lo = vec (get_or boxes (6 * i) nan) (get_or boxes (6 * i + 1) nan) (get_or boxes (6 * i + 2) nan);
      hi = vec (get_or boxes (6 * i + 3) nan) (get_or boxes (6 * i + 4) nan) (get_or boxes (6 * i + 5) nan);
    }

-- ---- the order: the first n numbers are the numbers below n
-- where number p stands
pub record Place (words : List ℕ) (n p : ℕ) : Type 0 where
  pub place : ℕ
  pub below : place < n
  pub is : at words place ≡ p

pub record Order (words : List ℕ) (n : ℕ) : Type 0 where
  pub room : n ≤ length words
  pub numbers : (x : ℕ) → x < n → at words x < n
  pub onto : (p : ℕ) → p < n → Place words n p

-- ---- the starts of m nodes; a walk is at its end where the start is n
pub record Starts (start : ℕ → ℕ) (n m : ℕ) : Type 0 where
  pub first : start 0 ≡ 0
  pub last : start m ≡ n
  pub early : (i : ℕ) → i < m → start i < n
  pub rising : (i : ℕ) → i < m → start i ≤ start (i + 1)
  -- "at most 8 polygons in a leaf"
  pub few : (i : ℕ) → i < m → start (i + 1) ≤ start i + 8
  pub inside : (i : ℕ) → i ≤ m → start i ≤ n

-- ---- a tree of m nodes over n polygons, each with its own box
pub record Tree (own : ℕ → Bounds) (boxes : List Float) (words : List ℕ) (n m : ℕ) : Type 0 where
  pub ordered : Order words n
  pub starts : Starts (start_at words n) n m
  pub room_nodes : m ≤ n
  pub room_boxes : 6 * m ≤ length boxes
  pub room_words : 0 < m → 3 * n + 1 ≤ length words
  pub ahead : (i : ℕ) → i < m → i < skip_at words n i
  pub within : (i : ℕ) → i < m → skip_at words n i ≤ m
  -- "A box above another holds its lowest and highest coordinates": the boxes of the nodes below ..
  pub above : (i j : ℕ) → i < m → i < j → j < skip_at words n i → Holds (box_at boxes i) (box_at boxes j)
  -- .. and the own boxes of the polygons of the node and of the nodes below
  pub holds : (i x : ℕ) → i < m → start_at words n i ≤ x → x < start_at words n (skip_at words n i) → Holds (box_at boxes i) (own (at words x))

-- the tree of a part: its boxes, and those that they hold, as the slab formula takes them
pub record PartTree (t : Part) (boxes : List Float) (words : List ℕ) : Type 0 where
  pub nodes : ℕ
  pub tree : Tree (λ p. padded (own_box_of t p)) boxes words t.polygons nodes
