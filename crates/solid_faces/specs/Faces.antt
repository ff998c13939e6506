-- The faces of a part, the area and the plane of its polygons, and refusals 8 and 9. Definitions only.
-- Faces are numbered in the order of their first polygons, as dfm.rs's `Part::new` finds them. "A face's surface is that of its first polygon".
use Rattle.std.specs.Prelude.{◌≡◌, ⊤, Bool, not, ◌&&◌, cond, List, ℕ, zero, suc, ◌+◌, eqb, ltb, leb, Float, Result, Ok, Err}
use Rattle.std.specs.Float.{binary64}
use Rattle.std.specs.Float.Ieee.{add}
use Rattle.std.specs.Result.{result_and}
use Rattle.refusal.specs.declared.Refusal.{Refusal}
use Rattle.refusal.specs.declared.Refusal.TheVariants.{FlatPolygon, TooManyFaces}
use Rattle.list_laws.specs.Below.{all_below, count_below, lowest_below}
use Rattle.math.specs.declared.Vec3.{Vec3}
use Rattle.math.specs.Vector as vector
use Rattle.solid_polygon.specs.file_part.specs.declared.read.FaceId.{FaceId}
use Rattle.solid_polygon.specs.file_part.specs.Part.{Part, part_of}
use Rattle.file_ok.specs.Verdict.{verdict_of}
use Rattle.solid_polygon.specs.declared.polygon.Plane.{Plane}
use Rattle.solid_polygon.specs.Polygon.{area_of_word}
use Rattle.solid_polygon.specs.Plane.{is_flat, plane_of}

-- ---- in the order of their first polygons
-- feature and index agree
unfoldable pub same_face : FaceId → FaceId → Bool
same_face a b = eqb a.feature b.feature && eqb a.index b.index

-- the first polygon of p's face; p itself where none is before it
unfoldable pub first_of : Part → ℕ → ℕ
first_of t p = lowest_below p (λ q. same_face (t.polygon q).face (t.polygon p).face)

-- p is the first polygon of its face
unfoldable pub is_new : Part → ℕ → Bool
is_new t p = eqb (first_of t p) p

-- how many faces the first n polygons are of
unfoldable pub face_count : Part → ℕ → ℕ
face_count t n = count_below n (is_new t)

unfoldable pub faces_of : Part → ℕ
faces_of t = face_count t t.polygons

-- the number of p's face: how many faces begin before it
unfoldable pub face_number : Part → ℕ → ℕ
face_number t p = face_count t (first_of t p)

-- the polygon that begins face f
unfoldable pub first_polygon : Part → ℕ → ℕ
first_polygon t f = lowest_below t.polygons (λ p. is_new t p && eqb (face_number t p) f)

-- the lowest polygon from q on that is of face f; the number of polygons where none is
unfoldable pub next_of : Part → ℕ → ℕ → ℕ
next_of t f q = lowest_below t.polygons (λ r. leb q r && eqb (face_number t r) f)

-- the lowest polygon above p that is of p's face; the number of polygons where none is
unfoldable pub next_polygon : Part → ℕ → ℕ
next_polygon t p = next_of t (face_number t p) (p + 1)

-- ---- the polygons
-- the corners of polygon p, from 0 on
unfoldable pub polygon_corner : Part → ℕ → ℕ → Vec3
polygon_corner t p k = t.vertex ((t.polygon p).first + k)

unfoldable pub polygon_flat : Part → ℕ → Bool
polygon_flat t p = is_flat (polygon_corner t p) (t.polygon p).count

unfoldable pub polygon_plane : Part → ℕ → Plane
polygon_plane t p = plane_of (polygon_corner t p) (t.polygon p).count

unfoldable pub polygon_area : Part → ℕ → Float
polygon_area t p = area_of_word (polygon_corner t p) (t.polygon p).count

-- the areas of the polygons below n that are of face f, added in their order from 0.0 on
unfoldable pub face_area_to : Part → ℕ → ℕ → Float
face_area_to t f zero = vector.zero
face_area_to t f (suc n) = cond (eqb (face_number t n) f) (add binary64 (face_area_to t f n) (polygon_area t n)) (face_area_to t f n)

unfoldable pub face_area : Part → ℕ → Float
face_area t f = face_area_to t f t.polygons

-- ---- "When a part is turned back": 8 and 9
-- 8: "`Polygon::new` gives None", of some polygon
unfoldable pub some_flat : Part → Bool
some_flat t = not (all_below t.polygons (λ p. not (polygon_flat t p)))

-- 9: "over 1,024 faces"
unfoldable pub too_many_faces_of : Part → Bool
too_many_faces_of t = ltb 1024 (faces_of t)

-- "Tested by rising number": 1 to 7, "then 8" over all polygons, then 9
unfoldable pub body_verdict : List ℕ → Result ⊤ Refusal
body_verdict s = result_and (verdict_of s) (cond (some_flat (part_of s)) (Err FlatPolygon) (cond (too_many_faces_of (part_of s)) (Err TooManyFaces) (Ok tt)))

-- a file that none of 1 to 9 turns back: what every later stage requires
unfoldable pub Checked : List ℕ → Type 0
Checked s = body_verdict s ≡ Ok tt
