-- What the functions of this crate leave on the way. A reader may pass over it.
use Rattle.std.specs.Prelude.{◌≡◌, true, List, ℕ, ◌+◌, ◌*◌, ◌≤◌, ◌<◌, T, Float, length, set}
use Rattle.std.specs.Float.Ieee.{le}
use Rattle.std.specs.Float.Ieee.Scale.{finite}
use Rattle.math.specs.Vector.{low_of, high_of}
use Rattle.solid_boxes.specs.declared.bounds.Bounds.{Bounds}
use Rattle.solid_boxes.specs.Bounds.{Holds}
use Rattle.solid_boxes.specs.Tree.{at, box_at, Order, Starts, start_at, skip_at}

-- ---- one box in another: "A box above another holds its lowest and highest coordinates"
-- the box of two boxes
unfoldable pub joined : Bounds → Bounds → Bounds
joined a b = record { lo = low_of a.lo b.lo; hi = high_of a.hi b.hi }

-- ---- a box with an inside
-- two bounds that are finite, the low one not above the high one
pub record Fit (l h : Float) : Type 0 where
  pub order : le l h ≡ true
  pub low : T (finite l)
  pub high : T (finite h)

pub record Tidy (b : Bounds) : Type 0 where
  pub x : Fit b.lo.x b.hi.x
  pub y : Fit b.lo.y b.hi.y
  pub z : Fit b.lo.z b.hi.z

-- ---- the order
abbrev pub swapped : List ℕ → ℕ → ℕ → List ℕ
swapped words a b = set (set words a (at words b)) b (at words a)

-- the order of n polygons, and three keys for each
pub record Keyed (keys : List Float) (words : List ℕ) (n : ℕ) : Type 0 where
  pub order : Order words n
  pub room : 3 * n ≤ length keys
  pub few : n ≤ 4096

-- the places from x on to before b are split at k, two at least on each side, and nothing past the order has changed
pub record Split (before after : List ℕ) (n x b k : ℕ) : Type 0 where
  pub order : Order after n
  pub size : length after ≡ length before
  pub kept : (i : ℕ) → n ≤ i → at after i ≡ at before i
  pub low : x + 2 ≤ k
  pub high : k + 2 ≤ b

-- ---- the order and the starts are put
pub record Started (words : List ℕ) (n m : ℕ) : Type 0 where
  pub order : Order words n
  pub starts : Starts (start_at words n) n m
  pub few : m ≤ n
  pub some : 0 < m

-- ---- the boxes and the skips
-- the numbers with b as box i
unfoldable pub put_box : List Float → ℕ → Bounds → List Float
put_box l i b =
    set (set (set (set (set (set l (6 * i) b.lo.x) (6 * i + 1) b.lo.y) (6 * i + 2) b.lo.z) (6 * i + 3) b.hi.x) (6 * i + 4) b.hi.y)
    (6 * i + 5) b.hi.z

-- b is a box of the polygons at the places from a on to before e
pub record Covers (own : ℕ → Bounds) (order : ℕ → ℕ) (a e : ℕ) (b : Bounds) : Type 0 where
  pub numbers : Holds b b
  pub each : (x : ℕ) → a ≤ x → x < e → Holds b (own (order x))

-- node i with the box b and the skip s, the nodes after it being put
pub record Node (own : ℕ → Bounds) (boxes : List Float) (words : List ℕ) (n m i : ℕ) (b : Bounds) (s : ℕ) : Type 0 where
  pub ahead : i < s
  pub within : s ≤ m
  pub above : (j : ℕ) → i < j → j < s → Holds b (box_at boxes j)
  pub covers : Covers own (at words) (start_at words n i) (start_at words n s) b

-- the nodes from i on
pub record Filled (own : ℕ → Bounds) (boxes : List Float) (words : List ℕ) (n m i : ℕ) : Type 0 where
  pub each : (j : ℕ) → i ≤ j → j < m → Node own boxes words n m j (box_at boxes j) (skip_at words n j)
