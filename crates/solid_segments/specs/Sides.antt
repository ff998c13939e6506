-- The sides of a part's polygons, and which of them have one key. Definitions only.
-- The vertex runs follow on and fill the vertex block, so a side has the number of the vertex that it begins at, in the order
-- "by polygon, then side".
use Rattle.std.specs.Prelude.{◌≡◌, Bool, cond, List, ℕ, ◌+◌, ◌*◌, ◌≤◌, ◌<◌, eqb, leb, length, get_or}
use Rattle.list_laws.specs.Below.{sum_below}
use Rattle.file_part.specs.Part.{Part}
use Rattle.solid_segments.specs.Key.{segment_scale, same_key_of}
use Rattle.solid_keys.specs.Pair.{is_live, side_key, pair_of, Alone}

-- the vertex after the run of polygon p
unfoldable pub run_end_of : Part → ℕ → ℕ
run_end_of t p = (t.polygon p).first + (t.polygon p).count

-- the polygon of side s: as many polygons as have runs that end at s or before
unfoldable pub owner_of : Part → ℕ → ℕ
owner_of t s = sum_below t.polygons (λ p. cond (leb (run_end_of t p) s) 1 0)

-- the vertex after s in a run from `first` to before `end`; after the last comes the first
unfoldable pub next_of : ℕ → ℕ → ℕ → ℕ
next_of first end s = cond (eqb (s + 1) end) first (s + 1)

-- the vertex where side s ends
unfoldable pub to_of : Part → ℕ → ℕ
to_of t s = next_of (t.polygon (owner_of t s)).first (run_end_of t (owner_of t s)) s

-- vertices a and b have one key
unfoldable pub same_end : Part → ℕ → ℕ → Bool
same_end t a b = same_key_of segment_scale (t.vertex a) (t.vertex b)

-- the two end keys of side s differ
unfoldable pub live : Part → ℕ → Bool
live t s = is_live (same_end t) (to_of t) s

-- side u has the key of side s: "the pair of end keys that `shared_segments` forms", in either order, which only a live side has
unfoldable pub same_side : Part → ℕ → ℕ → Bool
same_side t u s = side_key (same_end t) (to_of t) u s

-- a side whose key no other side has
abbrev pub AloneIn : Part → ℕ → Type 0
AloneIn t s = Alone (same_side t) t.vertices s

-- What `shared_segments` leaves, three cells for each side s of a part: the vertex where it ends, its polygon, and the pair of s. The
-- shared segments in the order "in which their key first appears, by polygon, then side" are the s in rising order with a pair of s + 2
-- to V; `pair_of` keeps one side, two and more of a key apart.
pub record SharedSegments (t : Part) (mem : List ℕ) : Type 0 where
  pub long : 3 * t.vertices ≤ length mem
  pub ends : (s : ℕ) → s < t.vertices → get_or mem (s * 3) 0 ≡ to_of t s
  pub owners : (s : ℕ) → s < t.vertices → get_or mem (s * 3 + 1) 0 ≡ owner_of t s
  pub pairs : (s : ℕ) → s < t.vertices → get_or mem (s * 3 + 2) 0 ≡ pair_of (same_side t) t.vertices s
