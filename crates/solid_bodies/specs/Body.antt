-- "A body, for hollows: a polygon and all that a chain leads to in which each touches the next." Definitions only.
-- What a body is stands first; then the same computed by trying everything, which other definitions cite. `body_lowest` of
-- proofs/BodyLaws.antt ties the two.
use Rattle.std.specs.Prelude.{ℕ, zero, suc, ◌+◌, ◌*◌, ◌≤◌, ◌<◌, ◌≡◌, Bool, true, ◌&&◌, ◌||◌, List, eqb, ltb, length, get_or}
use Rattle.list_laws.specs.Below.{lowest_below}
use Rattle.file_part.specs.Part.{Part}
use Rattle.solid_segments.specs.Key.{body_scale, same_key_of}

-- a chain from i to j, each related to the next
pub data Chain (R : ℕ → ℕ → Type 0) : ℕ → ℕ → Type 0 where
  here : {i : ℕ} → Chain R i i
  step : {i j k : ℕ} → R i j → Chain R j k → Chain R i k

-- l is the lowest number that a chain joins with i
pub record Lowest (R : ℕ → ℕ → Type 0) (i l : ℕ) : Type 0 where
  pub joined : Chain R i l
  pub least : (k : ℕ) → Chain R i k → l ≤ k

-- vertex v is a corner of polygon p
pub record CornerOf (t : Part) (p v : ℕ) : Type 0 where
  pub known : p < t.polygons
  pub from : (t.polygon p).first ≤ v
  pub to : v < (t.polygon p).first + (t.polygon p).count

-- "Two polygons touch where dfm.rs joins them directly, by a common key": a corner of i and a corner of j have one key
pub record Touch (t : Part) (i j : ℕ) : Type 0 where
  pub a : ℕ
  pub b : ℕ
  pub a_of : CornerOf t i a
  pub b_of : CornerOf t j b
  pub same : same_key_of body_scale (t.vertex a) (t.vertex b) ≡ true

-- ---- by trying everything
-- a number below n passes the test
unfoldable pub some_below : ℕ → (ℕ → Bool) → Bool
some_below n test = ltb (lowest_below n test) n

-- polygons i and j touch: all corners of the one against all of the other
unfoldable pub touches : Part → ℕ → ℕ → Bool
touches t i j =
    some_below (t.polygon i).count (λ a. some_below (t.polygon j).count (λ b.
    same_key_of body_scale (t.vertex ((t.polygon i).first + a)) (t.vertex ((t.polygon j).first + b))))

-- a chain from i to j, each passing the test with the next, that between its ends has numbers below n only
unfoldable pub chained : (ℕ → ℕ → Bool) → ℕ → ℕ → ℕ → Bool
chained test zero i j = eqb i j || test i j
chained test (suc n) i j = chained test n i j || (chained test n i n && chained test n n j)

-- the lowest polygon that a chain of touching polygons joins with p: the body of p goes by it ("in the order of their lowest polygon number")
unfoldable pub body_of : Part → ℕ → ℕ
body_of t p = lowest_below t.polygons (chained (touches t) t.polygons p)

-- ---- in a list
-- the number of its body at each polygon; what follows in the list plays no part
pub record Labels (t : Part) (l : List ℕ) : Type 0 where
  pub each : (p : ℕ) → p < t.polygons → get_or l p 0 ≡ body_of t p
  pub long : t.polygons ≤ length l

-- the cells that `bodies` is lent for p polygons of v vertices: a label each, and its work
abbrev pub body_cells : ℕ → ℕ → ℕ
body_cells p v = p + 6 * v

-- what `bodies` leaves
pub record Bodies (t : Part) (mem : List ℕ) : Type 0 where
  pub labels : Labels t mem
  pub long : length mem ≡ body_cells t.polygons t.vertices
