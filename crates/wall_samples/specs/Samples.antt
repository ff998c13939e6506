-- The thickness readings of a part: `thickness_samples`. Definitions only.
use Rattle.std.specs.Prelude.{Bool, cond, List, [], ◌∷◌, ◌++◌, ℕ, zero, suc, ◌*◌, ltb, length, get_or, Float, Option, Some, None}
use Rattle.std.specs.Float.{binary64}
use Rattle.std.specs.Float.Ieee.{add, neg, lt, le, of_bits}
use Rattle.math.specs.declared.Vec3.{Vec3}
use Rattle.math.specs.Vector.{one, plus, times, dot_of}
use Rattle.math.specs.Vector as vector
use Rattle.file_part.specs.Part.{Part}
use Rattle.solid_polygon.specs.Polygon.{half, centroid_of}
use Rattle.solid_faces.specs.Faces.{polygon_corner, polygon_plane, polygon_area, face_number, faces_of}
use Rattle.wall_tree.specs.wall_ray.specs.declared.strike.Ray.{Ray}
use Rattle.wall_tree.specs.wall_ray.specs.declared.strike.Hit.{Hit}
use Rattle.wall_tree.specs.wall_ray.specs.Nearest.{hit_of}
use Rattle.wall_starts.specs.Starts.{total_area_of, wanted, ordered_polygons, step_of}
use Rattle.wall_samples.specs.declared.sample.Sample.{Sample}
use Rattle.wall_samples.specs.declared.cast.Reading.{Reading}

-- the f64 1e-6
abbrev pub e_6 : Float
e_6 = of_bits binary64 0x3eb0_c6f7_a0b5_ed8d

-- ---- one ray
-- dfm.rs's own centroid of polygon p
unfoldable pub polygon_centroid : Part → ℕ → Vec3
polygon_centroid t p = centroid_of (polygon_corner t p) (t.polygon p).count

-- `p.normal * -1.0`
unfoldable pub inward : Part → ℕ → Vec3
inward t p = times (polygon_plane t p).normal (neg one)

-- from the centroid, 1e-6 inward
unfoldable pub ray_of : Part → ℕ → Ray
ray_of t p = record { origin = plus (polygon_centroid t p) (times (inward t p) e_6); dir = inward t p }

-- hits that face back: dot under -0.5
unfoldable pub faces_back : Part → ℕ → ℕ → Bool
faces_back t p q = lt (dot_of (polygon_plane t q).normal (polygon_plane t p).normal) (neg half)

-- the readings, none or one, of a polygon's ray: the thickness is t + 1e-6. Face, hit face, area, point and normal follow from the two polygons
-- (`sample_of`).
unfoldable pub reading_of : Part → ℕ → Option Hit → List Reading
reading_of t p (Some h) = cond (faces_back t p h.polygon) (record { polygon = p; hit = h.polygon; thickness = add binary64 h.t e_6 } ∷ []) []
reading_of t p None = []

unfoldable pub readings_from : Part → ℕ → List Reading
readings_from t p = reading_of t p (hit_of t (ray_of t p))

-- ---- the rays of a face: every step-th of its polygons in their order, as many as are wanted
-- the first n of them; those past the end of the polygons are none
unfoldable pub picks_to : Part → List ℕ → ℕ → ℕ → List Reading
picks_to t order step zero = []
picks_to t order step (suc n) =
    cond (ltb (n * step) (length order)) (picks_to t order step n ++ readings_from t (get_or order (n * step) 0)) (picks_to t order step n)

unfoldable pub face_readings : Part → ℕ → List Reading
face_readings t f = picks_to t (ordered_polygons t f) (step_of (length (ordered_polygons t f)) (wanted t f)) (wanted t f)

-- ---- all faces, in their order
unfoldable pub readings_to : Part → ℕ → List Reading
readings_to t zero = []
readings_to t (suc f) = readings_to t f ++ face_readings t f

-- none where the total area is 0 or less
unfoldable pub readings_of : Part → List Reading
readings_of t = cond (le (total_area_of t) vector.zero) [] (readings_to t (faces_of t))

-- ---- a reading as dfm.rs's rules read it: faces by their numbers, the area, centroid and normal of the polygon that the ray starts from
unfoldable pub sample_of : Part → Reading → Sample
sample_of t r = record {
  face = face_number t r.polygon;
  hit = face_number t r.hit;
  thickness = r.thickness;
  area = polygon_area t r.polygon;
  point = polygon_centroid t r.polygon;
  normal = (polygon_plane t r.polygon).normal;
}
