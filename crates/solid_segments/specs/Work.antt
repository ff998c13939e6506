-- What private functions leave on the way; a reader may pass over it. Definitions only.
use Rattle.std.specs.Prelude.{◌≡◌, List, ℕ, suc, ◌+◌, ◌-◌, ◌*◌, ◌≤◌, ◌<◌, ℤ, pos, negsuc, Float, length, get_or, set}
use Rattle.math.specs.declared.Vec3.{Vec3}
use Rattle.file_part.specs.Part.{Part, part_of}
use Rattle.file_part.specs.Layout.{vertex_count_of}
use Rattle.file_ok.specs.Rules.{run_start}
use Rattle.file_ok.specs.Work.{Readable}
use Rattle.solid_keys.specs.Pair.{Shared, Many, pair_of}
use Rattle.solid_keys.specs.Work.{col}
use Rattle.solid_segments.specs.Key.{key_part, segment_scale}
use Rattle.solid_segments.specs.Sides.{run_end_of, owner_of, to_of, same_side}

-- ---- beside Key.antt
-- a whole number of at most b in size, counted from -b on
unfoldable pub from_zero_of : ℕ → ℤ → ℕ
from_zero_of b (pos n) = b + n
from_zero_of b (negsuc n) = b - suc n

-- a coordinate's key as the columns hold it
unfoldable pub key_cell : Float → ℕ → Float → ℕ
key_cell scale b x = from_zero_of b (key_part scale x)

-- ---- beside Sides.antt
-- side s lies in the run of a polygon, and ends at a vertex
pub record Owned (t : Part) (s : ℕ) : Type 0 where
  pub low : owner_of t s < t.polygons
  pub from : (t.polygon (owner_of t s)).first ≤ s
  pub before : s < run_end_of t (owner_of t s)
  pub to : to_of t s < t.vertices

-- "A shared segment": sides s and u, and no third, have one key, and s comes first
abbrev pub SharedBy : Part → ℕ → ℕ → Type 0
SharedBy t s u = Shared (same_side t) t.vertices s u

-- the first side of a key that more than two sides have
abbrev pub FirstOfMany : Part → ℕ → Type 0
FirstOfMany t s = Many (same_side t) t.vertices s

-- the cells that `shared_segments` is lent for v sides: eight each while they are paired
abbrev pub side_cells : ℕ → ℕ
side_cells v = 8 * v

-- ---- what the columns hold on the way from an accepted file to its shared segments
-- where the run of polygon p of a file begins
abbrev pub start_of : List ℕ → ℕ → ℕ
start_of file p = run_start file (vertex_count_of file) p

-- the run of polygon p of a file with v vertices, from a vertex to before another
pub record RunAt (file : List ℕ) (v p first end : ℕ) : Type 0 where
  pub first_is : first ≡ start_of file p
  pub end_is : end ≡ start_of file (p + 1)
  pub rises : first ≤ end
  pub below : end ≤ v
  pub few : v ≤ 16384
  pub low : p < 4096

-- a coordinate's key in a column, from 0 to 2 * 10 ^ 8
abbrev pub cell_of : Float → ℕ
cell_of x = key_cell segment_scale 100000000 x

-- columns 0 to 3 of side s
pub record Placed (t : Part) (mem : List ℕ) (s : ℕ) : Type 0 where
  pub x : col mem 0 s ≡ cell_of (t.vertex s).x
  pub y : col mem 1 s ≡ cell_of (t.vertex s).y
  pub z : col mem 2 s ≡ cell_of (t.vertex s).z
  pub end : col mem 3 s ≡ to_of t s

-- those of the sides below i
unfoldable pub PlacedBelow : Part → List ℕ → ℕ → Type 0
PlacedBelow t mem i = (s : ℕ) → s < i → Placed t mem s

-- the polygons of the sides below i in column 4, and the other columns as they were
pub record OwnedBelow (t : Part) (old mem : List ℕ) (i : ℕ) : Type 0 where
  pub owners : (s : ℕ) → s < i → col mem 4 s ≡ owner_of t s
  pub others : (j : ℕ) → j < 8 → (j ≡ 4 → ⊥) → (s : ℕ) → col mem j s ≡ col old j s

-- a side's cells in place
abbrev pub side_row : Vec3 → ℕ → ℕ → List ℕ → List ℕ
side_row v s to mem =
    set (set (set (set mem (s * 8 + 0) (cell_of v.x)) (s * 8 + 1) (cell_of v.y)) (s * 8 + 2) (cell_of v.z)) (s * 8 + 3) to

-- whatever the polygons are put over, if those of the sides below i are in place in one slice, those of the sides below k are in the other
unfoldable pub OwnsMore : Part → List ℕ → List ℕ → ℕ → ℕ → Type 0
OwnsMore t mem new i k = (old : List ℕ) → OwnedBelow t old mem i → OwnedBelow t old new k

-- so for the sides of polygon p
abbrev pub OwnsRun : List ℕ → List ℕ → List ℕ → ℕ → Type 0
OwnsRun file mem new p = OwnsMore (part_of file) mem new (start_of file p) (start_of file (p + 1))

-- an accepted file with v vertices, and eight cells for each
pub record Lent (file mem : List ℕ) (v : ℕ) : Type 0 where
  pub readable : Readable file
  pub is_count : v ≡ vertex_count_of file
  pub long : length mem ≡ side_cells v

-- the sides once they are paired, eight cells each: in column 7 the pair of side s, in column 3 the vertex where it ends, in column 4 its polygon
pub record PairedSides (t : Part) (mem : List ℕ) : Type 0 where
  pub long : length mem ≡ side_cells t.vertices
  pub pairs : (s : ℕ) → s < t.vertices → col mem 7 s ≡ pair_of (same_side t) t.vertices s
  pub ends : (s : ℕ) → s < t.vertices → col mem 3 s ≡ to_of t s
  pub owners : (s : ℕ) → s < t.vertices → col mem 4 s ≡ owner_of t s

-- those three of the first k sides moved together to the front; the cells of the sides from k on stand where they stood
pub record Packed (k : ℕ) (old new : List ℕ) : Type 0 where
  pub ends : (s : ℕ) → s < k → get_or new (s * 3) 0 ≡ col old 3 s
  pub owners : (s : ℕ) → s < k → get_or new (s * 3 + 1) 0 ≡ col old 4 s
  pub pairs : (s : ℕ) → s < k → get_or new (s * 3 + 2) 0 ≡ col old 7 s
  pub rest : (i : ℕ) → k * 8 ≤ i → get_or new i 0 ≡ get_or old i 0
  pub long : length new ≡ length old

-- one side more
pub record PackedMore (s : ℕ) (before after : List ℕ) : Type 0 where
  pub packed : (old : List ℕ) → Packed s old before → Packed (s + 1) old after
  pub long : length after ≡ length before
