-- What private functions leave on the way; a reader may pass over it. Definitions only.
use Rattle.std.specs.Prelude.{◌≡◌, true, List, ℕ, ◌+◌, ◌*◌, ◌<◌, ◌/◌, ◌%◌, ◌≤◌, length, get_or, set, Float}
use Rattle.std.specs.Float.{nan}
use Rattle.solid_polygon.specs.file_part.specs.declared.read.FaceId.{FaceId}
use Rattle.solid_polygon.specs.file_part.specs.Part.{Part}
use Rattle.solid_polygon.specs.declared.polygon.Plane.{Plane}
use Rattle.solid_keys.specs.Work.{Heads, Next}
use Rattle.solid_faces.specs.Faces.{is_new, face_count, face_area_to, first_polygon}

-- ---- faces
-- the numbers kept from a place on
unfoldable pub from : List ℕ → ℕ → ℕ → ℕ
from l start f = get_or l (start + f) 0

-- on the way: the first p polygons are of n faces, and `first` has the first polygon of each
pub record Firsts (t : Part) (p n : ℕ) (first : ℕ → ℕ) : Type 0 where
  pub count : n ≡ face_count t p
  pub early : (f : ℕ) → f < n → first f < p
  pub new : (f : ℕ) → f < n → is_new t (first f) ≡ true
  pub number : (f : ℕ) → f < n → face_count t (first f) ≡ f

-- the cells that `faces` is lent for p polygons: a number each, and the first polygons of at most 1,024 faces
abbrev pub face_cells_of : ℕ → ℕ
face_cells_of p = p + 1024

-- ---- areas
-- of each face, over the polygons below p; past the last face 0.0, which is the sum of no areas
pub record AreasTo (t : Part) (p : ℕ) (l : List Float) : Type 0 where
  pub each : (f : ℕ) → f < length l → get_or l f nan ≡ face_area_to t f p

-- ---- planes: four numbers each
-- the numbers with x as plane p
unfoldable pub put_plane : List Float → ℕ → Plane → List Float
put_plane l p x = set (set (set (set l (4 * p) x.normal.x) (4 * p + 1) x.normal.y) (4 * p + 2) x.normal.z) (4 * p + 3) x.w

-- the cells that `put_planes` is lent for p polygons
abbrev pub plane_cells : ℕ → ℕ
plane_cells p = 4 * p

-- ---- the faces so far, by the slots of a hash
-- the slot of an id among 2,048; all that matters is that equal ids have equal slots
unfoldable pub id_slot : FaceId → ℕ
id_slot id = (id.feature * 73856093 + id.index * 83492791) / 65536 % 2048

-- the slot of face f
unfoldable pub face_slot : Part → ℕ → ℕ
face_slot t f = id_slot (t.polygon (first_polygon t f)).face

-- the first p polygons are of n faces: 2,048 heads, then a link and a first polygon for each of them
pub record Table (t : Part) (p n : ℕ) (l : List ℕ) : Type 0 where
  pub heads : Heads (face_slot t) 2048 (λ h. get_or l h 0) n
  pub links : Next (face_slot t) (from l 2048) n
  pub firsts : Firsts t p n (from l 3072)
  pub few : n ≤ 1024
  pub long : length l ≡ 4096
