-- What private functions leave on the way; a reader may pass over it. Definitions only.
use Rattle.std.specs.Prelude.{◌≡◌, true, false, List, ℕ, ◌+◌, ◌*◌, ◌≤◌, ◌<◌, length, get_or, Float}
use Rattle.std.specs.Float.{nan}
use Rattle.std.specs.Float.Ieee.{neg, is_nan}
use Rattle.list_laws.specs.Region.{part, Outside}
use Rattle.list_laws.specs.Below.{sum_below}
use Rattle.file_part.specs.Part.{Part}
use Rattle.solid_faces.specs.Faces.{is_new, face_number, faces_of, next_polygon, polygon_area}
use Rattle.solid_faces.specs.Kept.{FaceAreas}
use Rattle.wall_starts.specs.Starts.{total_area_of, face_polygons, ordered_polygons}

-- ---- what the functions of this crate say of the lent slices. The code knows no part: what it puts is told for every part that the slices hold.

-- ---- how many rays a face gets
-- the sum of the first n areas of l
pub record Total (l : List Float) (n : ℕ) (r : Float) : Type 0 where
  pub is : (t : Part) → n ≡ faces_of t → FaceAreas t l → r ≡ total_area_of t

-- ---- areas, negated
-- of each polygon below p
pub record KeptFalling (t : Part) (p : ℕ) (l : List Float) : Type 0 where
  pub each : (q : ℕ) → q < p → get_or l q nan ≡ neg (polygon_area t q)
  pub long : p ≤ length l

-- the n numbers from `areas` on stand negated from `falling` on
pub record Negated (old new : List Float) (areas falling n : ℕ) : Type 0 where
  pub each : (q : ℕ) → q < n → get_or new (falling + q) nan ≡ neg (get_or old (areas + q) nan)
  pub kept : Outside nan falling (falling + n) old new

-- ---- the polygons of a face
-- for each polygon below p the next one of its face, from `chain` on; polygon `first` begins a face
pub record Along (t : Part) (p : ℕ) (l : List ℕ) (chain first : ℕ) : Type 0 where
  pub polygons : p ≡ t.polygons
  pub each : (q : ℕ) → q < p → get_or l (chain + q) 0 ≡ next_polygon t q
  pub below : first < p
  pub new : is_new t first ≡ true

-- no area is a NaN, so that the polygons have one order by area only
pub record AreaNumbers (t : Part) : Type 0 where
  pub each : (q : ℕ) → q < t.polygons → is_nan (polygon_area t q) ≡ false

-- p polygons: for each a later one, and then room for twice as many
pub record Room (l : List ℕ) (chain order p : ℕ) : Type 0 where
  pub few : p ≤ 4096
  pub rises : (q : ℕ) → q < p → q < get_or l (chain + q) 0
  pub apart : chain + p ≤ order
  pub inside : order + 2 * p ≤ length l

-- the n polygons of the face stand from `order` on, rising
pub record Gathered (old new : List ℕ) (chain order p first n : ℕ) : Type 0 where
  pub most : n ≤ p
  pub below : (i : ℕ) → i < n → get_or new (order + i) 0 < p
  pub is : (t : Part) → Along t p old chain first → part order (order + n) new ≡ face_polygons t (face_number t first)
  pub kept : Outside 0 order (order + n) old new

-- they stand there by falling area
pub record Ordered (keys : List Float) (old new : List ℕ) (chain order p first n : ℕ) : Type 0 where
  pub most : n ≤ p
  pub count : (t : Part) → Along t p old chain first → n ≡ length (face_polygons t (face_number t first))
  pub is : (t : Part) → Along t p old chain first → KeptFalling t p keys → AreaNumbers t
      → part order (order + n) new ≡ ordered_polygons t (face_number t first)
  pub kept : Outside 0 order (order + 2 * p) old new

-- how many polygons the first n faces have
unfoldable pub lengths_to : Part → ℕ → ℕ
lengths_to t n = sum_below n (λ f. length (face_polygons t f))
