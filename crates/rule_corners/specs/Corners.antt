-- The inside corners of a part, as dfm.rs's `machining` finds them (`corners`): edges between two flat faces at which the part is concave, by
-- their pair of faces. Definitions only.
use Rattle.std.specs.Prelude.{Bool, true, false, ◌&&◌, cond, List, [], ◌∷◌, ℕ, ◌-◌, length, get_or, Float}
use Rattle.std.specs.Float.{binary64}
use Rattle.std.specs.Float.Ieee.{add, lt, of_bits}
use Rattle.math.specs.declared.Vec3.{Vec3}
use Rattle.math.specs.Vector.{zero, plus, minus, times, dot_of, length_of}
use Rattle.list_groups.specs.Groups.{passing}
use Rattle.file_part.specs.declared.read.SurfaceKind.{SurfaceKind}
use Rattle.file_part.specs.declared.read.SurfaceKind.TheVariants.{Plane, Cylinder, Revolved, Other}
use Rattle.file_part.specs.Part.{Part}
use Rattle.solid_polygon.specs.Polygon.{half}
use Rattle.solid_faces.specs.Faces.{polygon_plane}
use Rattle.solid_ids.specs.Ids.{face_before}
use Rattle.solid_segments.specs.Sides.{owner_of, to_of}
use Rattle.solid_pairs.specs.Pairs.{over_face_pairs}
use Rattle.solid_edges.specs.Edges.{pair_in, face_of_side, face_beyond, is_edge_of}
use Rattle.wall_ray.specs.Strike.{e_9}
use Rattle.wall_samples.specs.Samples.{polygon_centroid}
use Rattle.rule_corners.specs.declared.corner.Corner.{Corner}

-- the f64 0.99
abbrev pub ninety_nine : Float
ninety_nine = of_bits binary64 0x3fef_ae14_7ae1_47ae

-- ---- one segment; it has the number of the first of its two sides
-- the polygon at its other side
unfoldable pub polygon_beyond : Part → ℕ → ℕ
polygon_beyond t s = owner_of t (pair_in t s - 1)

unfoldable pub is_plane : SurfaceKind → Bool
is_plane Plane = true
is_plane (Cylinder o d r) = false
is_plane (Revolved o d) = false
is_plane Other = false

-- "the sharp-corner rule looks at each polygon's own" surface
unfoldable pub on_plane : Part → ℕ → Bool
on_plane t p = is_plane (t.polygon p).surface

-- `(seg[0] + seg[1]) * 0.5`
unfoldable pub mid_of : Part → ℕ → Vec3
mid_of t s = times (plus (t.vertex s) (t.vertex (to_of t s))) half

-- `pi.normal.dot(pj.normal) < 0.99 && (centroid(&pj.verts) - mid).dot(pi.normal) > 1e-9`
unfoldable pub is_concave : Part → ℕ → ℕ → Vec3 → Bool
is_concave t i j mid =
    lt (dot_of (polygon_plane t i).normal (polygon_plane t j).normal) ninety_nine
    && lt e_9 (dot_of (minus (polygon_centroid t j) mid) (polygon_plane t i).normal)

-- the segment of side s is a corner: between different faces, both polygons on planes, concave
unfoldable pub is_corner : Part → ℕ → Bool
is_corner t s =
    is_edge_of t s && (on_plane t (owner_of t s) && (on_plane t (polygon_beyond t s) && is_concave t (owner_of t s) (polygon_beyond t s) (mid_of t s)))

-- ---- all of them, in the order of the shared segments
unfoldable pub corner_sides : Part → List ℕ
corner_sides t = passing (is_corner t) t.vertices

unfoldable pub corner_count : Part → ℕ
corner_count t = length (corner_sides t)

-- the k-th
unfoldable pub corner_side : Part → ℕ → ℕ
corner_side t k = get_or (corner_sides t) k 0

-- its two faces
unfoldable pub near_face : Part → ℕ → ℕ
near_face t k = face_of_side t (corner_side t k)

unfoldable pub far_face : Part → ℕ → ℕ
far_face t k = face_beyond t (corner_side t k)

-- ---- what is kept of those between one pair of faces
-- `(seg[1] - seg[0]).length()`
unfoldable pub segment_length : Part → ℕ → Float
segment_length t s = length_of (minus (t.vertex (to_of t s)) (t.vertex s))

-- `e.0 += ..`: one corner after the other
unfoldable pub length_from_of : Part → Float → List ℕ → Float
length_from_of t x [] = x
length_from_of t x (k ∷ l) = length_from_of t (add binary64 x (segment_length t (corner_side t k))) l

-- the last of those after k
unfoldable pub last_of : ℕ → List ℕ → ℕ
last_of k [] = k
last_of k (j ∷ l) = last_of j l

-- the two normals, that of the lower id first: `if pi.tag.id <= pj.tag.id { (pi.normal, pj.normal) } else { (pj.normal, pi.normal) }`
unfoldable pub is_turned : Part → ℕ → Bool
is_turned t s = face_before t (face_beyond t s) (face_of_side t s)

unfoldable pub lower_normal : Part → ℕ → Vec3
lower_normal t s = (polygon_plane t (cond (is_turned t s) (polygon_beyond t s) (owner_of t s))).normal

unfoldable pub higher_normal : Part → ℕ → Vec3
higher_normal t s = (polygon_plane t (cond (is_turned t s) (owner_of t s) (polygon_beyond t s))).normal

-- the lengths added, the midpoint of the last, the normals of the first. (Of no corners, which nothing asks for, those of corner 0.)
unfoldable pub corner_of_word : Part → List ℕ → Corner
corner_of_word t [] = record { length = zero; mid = mid_of t (corner_side t 0); low = lower_normal t (corner_side t 0); high = higher_normal t (corner_side t 0) }
corner_of_word t (k ∷ l) =
    record {
      length = length_from_of t zero (k ∷ l);
      mid = mid_of t (corner_side t (last_of k l));
      low = lower_normal t (corner_side t k);
      high = higher_normal t (corner_side t k);
    }

-- ---- `for ((a, b), (length, mid, na, nb)) in corners`: what h makes of each two faces with corners between them, by rising ids, and of those corners
unfoldable pub over_corners : {X : Type 0} → Part → (ℕ → ℕ → List ℕ → List X) → List X
over_corners t h = over_face_pairs t (near_face t) (far_face t) (corner_count t) h
