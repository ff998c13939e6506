-- What private functions leave on the way; a reader may pass over it. Definitions only.
pub mod Forest
use Rattle.std.specs.Prelude.{◌≡◌, Option, None, Some, List, Bool, ◌&&◌, ℕ, ◌+◌, ◌*◌, ◌<◌, suc, ◌/◌, ◌%◌, ◌^◌, ◌≤◌, Float, length, get_or, take, eqb}
use Rattle.list_laws.specs.Region.{part}
use Rattle.file_part.specs.Part.{Part}
use Rattle.solid_segments.specs.Key.{body_scale}
use Rattle.solid_segments.specs.Work.{key_cell}
use Rattle.solid_bodies.specs.Body.{Chain, Touch, CornerOf, Lowest}
use Rattle.solid_bodies.specs.Work.Forest.{Falls, Up, Carries}

-- ---- beside Body.antt
-- polygons i and j are of one body
abbrev pub Joined : Part → ℕ → ℕ → Type 0
Joined t = Chain (Touch t)

-- ---- the corners of a part as they stand in a list: of each vertex its owner, and then the three numbers of its key
-- a coordinate's key as a number from 0 to 2 * 10^9
abbrev pub number_of : Float → ℕ
number_of x = key_cell body_scale 1000000000 x

-- the key of vertex v, in a list of n corners
pub record KeyAt (t : Part) (n : ℕ) (c : List ℕ) (v : ℕ) : Type 0 where
  pub x : get_or c (n + 3 * v) 0 ≡ number_of (t.vertex v).x
  pub y : get_or c (n + 3 * v + 1) 0 ≡ number_of (t.vertex v).y
  pub z : get_or c (n + 3 * v + 2) 0 ≡ number_of (t.vertex v).z

-- the key of vertex v is put; what stands before it stays
pub record KeyPut (t : Part) (n v : ℕ) (c c' : List ℕ) : Type 0 where
  pub key : KeyAt t n c' v
  pub before : (k : ℕ) → k < n + 3 * v → get_or c' k 0 ≡ get_or c k 0
  pub long : length c' ≡ length c

-- the first n vertices have their owners
abbrev pub Owned : Part → ℕ → List ℕ → Type 0
Owned t n c = (v : ℕ) → v < n → CornerOf t (get_or c v 0) v

-- the keys of the first m of n vertices are put, and the owners stay
pub record Keyed (t : Part) (n m : ℕ) (c c' : List ℕ) : Type 0 where
  pub keys : (v : ℕ) → v < m → KeyAt t n c' v
  pub owners : (v : ℕ) → v < n → get_or c' v 0 ≡ get_or c v 0
  pub long : length c' ≡ length c

-- all corners stand in the list
pub record Cornered (t : Part) (n : ℕ) (c : List ℕ) : Type 0 where
  pub owners : Owned t n c
  pub keys : (v : ℕ) → v < n → KeyAt t n c v

-- ---- corners in a list, the table that finds those of one key, and the memory that holds both below the labels
-- a key in three u32
pub record KeyNumbers : Type 0 where
  pub x : ℕ
  pub y : ℕ
  pub z : ℕ

-- the test of two keys
unfoldable pub eq_key : KeyNumbers → KeyNumbers → Bool
eq_key k l = eqb k.x l.x && eqb k.y l.y && eqb k.z l.z

-- each corner has a key and belongs to a polygon
pub record Corners : Type 0 where
  pub count : ℕ
  pub key : ℕ → KeyNumbers
  pub owner : ℕ → ℕ

-- a corner of i and a corner of j have one key
pub record Meet (m : Corners) (i j : ℕ) : Type 0 where
  pub a : ℕ
  pub b : ℕ
  pub a_in : a < m.count
  pub b_in : b < m.count
  pub a_own : m.owner a ≡ i
  pub b_own : m.owner b ≡ j
  pub same : m.key a ≡ m.key b

-- n corners in a list: their owners, and then three numbers a key
abbrev pub key_at : ℕ → List ℕ → ℕ → KeyNumbers
key_at n c v = record { x = get_or c (n + 3 * v) 0; y = get_or c (n + 3 * v + 1) 0; z = get_or c (n + 3 * v + 2) 0 }

abbrev pub corners_of : ℕ → List ℕ → Corners
corners_of n c = record { count = n; key = key_at n c; owner = λ v. get_or c v 0 }

-- the slot of a key in a table of n slots. Keys of whole millimetres are multiples of 100,000; the middle bits of the sum differ for them too
unfoldable pub slot_of : ℕ → KeyNumbers → ℕ
slot_of n k = (k.x * 73856093 + k.y * 19349663 + k.z * 83492791) / 16777216 % n

-- a corner before v with v's key, or none where there is none
abbrev pub Before : Corners → ℕ → Option ℕ → Type 0
Before m v (Some u) = (u < v) × (m.key u ≡ m.key v)
Before m v None = (w : ℕ) → w < v → m.key w ≡ m.key v → ⊥

-- t is one more than the last corner before v in slot h of n, or 0 where there is none
pub record Gap (m : Corners) (n h t v : ℕ) : Type 0 where
  pub low : t ≤ v
  pub slot : (s : ℕ) → t ≡ suc s → slot_of n (m.key s) ≡ h
  pub gap : (w : ℕ) → t ≤ w → w < v → slot_of n (m.key w) ≡ h → ⊥

-- the table: n slots, each with the last corner before v in it, and then of each corner the one before it in its slot
pub record Hashed (m : Corners) (n : ℕ) (table : List ℕ) (v : ℕ) : Type 0 where
  pub heads : (h : ℕ) → h < n → Gap m n h (get_or table h 0) v
  pub nexts : (u : ℕ) → u < v → Gap m n (slot_of n (m.key u)) (get_or table (n + u) 0) u

-- the forest after the first v corners: it joins the owners of those with one key, and nothing that no chain joins
pub record Made (m : Corners) (p : List ℕ) (v : ℕ) : Type 0 where
  pub falls : Falls p
  pub sound : Carries (Up p) (Meet m)
  pub whole : (a b : ℕ) → a < b → b < v → m.key a ≡ m.key b → Chain (Up p) (m.owner a) (m.owner b)

-- ---- the memory: p labels, 4 n numbers of the corners, 2 n of the table
abbrev pub corners_in : ℕ → ℕ → List ℕ → Corners
corners_in p n s = corners_of n (part p (p + 4 * n) s)

-- there is room for all, a u32 holds each number, and the owners are polygons
pub record Memory (p n : ℕ) (s : List ℕ) : Type 0 where
  pub few : n + 1 < 2 ^ 32
  pub low : p < 2 ^ 32
  pub room : p + 4 * n + 2 * n ≤ length s
  pub owned : (v : ℕ) → v < n → get_or (part p (p + 4 * n) s) v 0 < p

-- the corners are as they were
pub record Kept (p n : ℕ) (s s' : List ℕ) : Type 0 where
  pub long : length s' ≡ length s
  pub corners : part p (p + 4 * n) s' ≡ part p (p + 4 * n) s

-- the first v corners are in the forest and in the table
pub record Scanned (p n : ℕ) (s : List ℕ) (v : ℕ) : Type 0 where
  pub made : Made (corners_in p n s) (take p s) v
  pub table : Hashed (corners_in p n s) n (part (p + 4 * n) (p + 4 * n + 2 * n) s) v

-- from one memory to the next, in which the first v corners are scanned
pub record Step (p n : ℕ) (s s' : List ℕ) (v : ℕ) : Type 0 where
  pub scanned : Scanned p n s' v
  pub kept : Kept p n s s'

-- of each of the p owners the label is the lowest that a chain joins with it
pub record Labelled (p n : ℕ) (s s' : List ℕ) : Type 0 where
  pub labels : (i : ℕ) → i < p → Lowest (Meet (corners_in p n s)) i (get_or s' i 0)
  pub long : length s' ≡ length s
