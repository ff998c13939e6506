-- What private functions leave on the way; a reader may pass over it. Definitions only.
use Rattle.std.specs.Prelude.{◌≡◌, Bool, ◌&&◌, List, ℕ, ◌+◌, ◌*◌, ◌/◌, ◌%◌, ◌<◌, ◌≤◌, eqb, length, get_or}
use Rattle.solid_keys.specs.Pair.{above, is_live, side_key, pair_among, pair_of}

-- ---- sides in one slice of u32, eight cells a side:
--   0, 1, 2   the key of vertex s, each part counted from 0
--   3         the vertex where side s ends
--   4         one more than the last side in slot s; later the polygon of side s
--   5         one more than the side before s in its slot
--   6         one more than the side before s that has its key
--   7         the pair of side s

-- column j of side s
abbrev pub col : List ℕ → ℕ → ℕ → ℕ
col mem j s = get_or mem (s * 8 + j) 0

-- vertices a and b have one key
unfoldable pub same_cells : List ℕ → ℕ → ℕ → Bool
same_cells mem a b = eqb (col mem 0 a) (col mem 0 b) && eqb (col mem 1 a) (col mem 1 b) && eqb (col mem 2 a) (col mem 2 b)

-- the two end keys of side s differ
unfoldable pub live_cells : List ℕ → ℕ → Bool
live_cells mem s = is_live (same_cells mem) (col mem 3) s

-- side u has the key of side s
unfoldable pub side_cells : List ℕ → ℕ → ℕ → Bool
side_cells mem u s = side_key (same_cells mem) (col mem 3) u s

-- n sides that end at vertices among them
pub record Sides (mem : List ℕ) (n : ℕ) : Type 0 where
  pub few : n ≤ 16384
  pub room : n * 8 ≤ length mem
  pub ends : (s : ℕ) → s < n → col mem 3 s < n

-- the first j columns are as they were
unfoldable pub Kept : ℕ → List ℕ → List ℕ → Type 0
Kept j old new = (i : ℕ) → i < j → (s : ℕ) → col new i s ≡ col old i s

-- ---- the slots of a hash: sides of one key have one slot
-- a number made of a vertex's key
unfoldable pub mix : List ℕ → ℕ → ℕ
mix mem v = col mem 0 v * 73856093 + col mem 1 v * 19349663 + col mem 2 v * 83492791

-- The slot of side s among n. Both ends are added, so that their order plays no part;
-- the low bits are left out, since keys of whole millimetres are all multiples of 10,000.
unfoldable pub slot : List ℕ → ℕ → ℕ → ℕ
slot mem n s = (mix mem s + mix mem (col mem 3 s)) / 16777216 % n

-- `head` leads from each of n slots to the last of the first i sides in it
unfoldable pub Heads : (ℕ → ℕ) → ℕ → (ℕ → ℕ) → ℕ → Type 0
Heads slots n head i = (h : ℕ) → h < n → head h ≡ above (λ u. eqb (slots u) h) i

-- `next` leads from each of the first i sides to the one before it in its slot
unfoldable pub Next : (ℕ → ℕ) → (ℕ → ℕ) → ℕ → Type 0
Next slots next i = (s : ℕ) → s < i → next s ≡ above (λ u. eqb (slots u) (slots s)) s

-- `prev` leads from each of n sides to the one before it that has its key
unfoldable pub Before : (ℕ → ℕ → Bool) → (ℕ → ℕ) → ℕ → Type 0
Before same prev n = (s : ℕ) → s < n → prev s ≡ above (λ u. same u s) s

-- `out` has the pairs of the first i sides, taken alone
unfoldable pub Out : (ℕ → ℕ → Bool) → ℕ → ℕ → (ℕ → ℕ) → Type 0
Out same many i out = (s : ℕ) → s < i → out s ≡ pair_among same many i s

-- ---- what the functions leave
-- one side more is paired
pub record Step (old new : List ℕ) (n s : ℕ) : Type 0 where
  pub kept : Kept 7 old new
  pub out : Out (side_cells old) (n + 1) (s + 1) (col new 7)

-- column 7 has the pairs of n sides
pub record Paired (old new : List ℕ) (n : ℕ) : Type 0 where
  pub kept : Kept 4 old new
  pub pairs : (s : ℕ) → s < n → col new 7 s ≡ pair_of (side_cells old) n s
