-- What the lent slices hold between the stages, by the part alone. Definitions only.
use Rattle.std.specs.Prelude.{◌≡◌, List, ℕ, ◌+◌, ◌*◌, ◌≤◌, ◌<◌, length, get_or, Float}
use Rattle.std.specs.Float.{nan}
use Rattle.math.specs.Vector.{vec}
use Rattle.solid_polygon.specs.file_part.specs.Part.{Part}
use Rattle.solid_polygon.specs.declared.polygon.Plane.{Plane}
use Rattle.solid_faces.specs.Faces.{faces_of, face_number, first_polygon, next_polygon, polygon_area, polygon_plane, face_area}

-- ---- faces
-- the face of each polygon below p
pub record FaceNumbers (t : Part) (p : ℕ) (l : List ℕ) : Type 0 where
  pub each : (q : ℕ) → q < p → get_or l q 0 ≡ face_number t q
  pub long : p ≤ length l

-- the face of each polygon, and after them the first polygon of each face
pub record Faces (t : Part) (l : List ℕ) : Type 0 where
  pub numbers : FaceNumbers t t.polygons l
  pub firsts : (f : ℕ) → f < faces_of t → get_or l (t.polygons + f) 0 ≡ first_polygon t f

-- for each polygon the next one of its face, so that a face's polygons are met from its first on
pub record Chain (t : Part) (l : List ℕ) : Type 0 where
  pub each : (p : ℕ) → p < t.polygons → get_or l p 0 ≡ next_polygon t p
  pub long : t.polygons ≤ length l

-- ---- areas
-- of each polygon below p
pub record KeptAreas (t : Part) (p : ℕ) (l : List Float) : Type 0 where
  pub each : (q : ℕ) → q < p → get_or l q nan ≡ polygon_area t q
  pub long : p ≤ length l

-- of each face; past the last face 0.0, which is the sum of no areas
pub record FaceAreas (t : Part) (l : List Float) : Type 0 where
  pub each : (f : ℕ) → f < length l → get_or l f nan ≡ face_area t f

-- ---- planes: four numbers each
unfoldable pub plane_at_of : List Float → ℕ → Plane
plane_at_of l p = record { normal = vec (get_or l (4 * p) nan) (get_or l (4 * p + 1) nan) (get_or l (4 * p + 2) nan); w = get_or l (4 * p + 3) nan }

-- of each polygon below p
pub record KeptPlanes (t : Part) (p : ℕ) (l : List Float) : Type 0 where
  pub each : (q : ℕ) → q < p → plane_at_of l q ≡ polygon_plane t q
  pub long : 4 * p ≤ length l
