-- The rounds of a part, by the part alone: `round`, `rounds` and `is_hole` of dfm.rs. Definitions only.
use Rattle.std.specs.Prelude.{Bool, true, false, ◌&&◌, cond, List, [], ◌∷◌, ◌++◌, ℕ, zero, suc, Float}
use Rattle.std.specs.Float.Ieee.{lt}
use Rattle.math.specs.declared.Vec3.{Vec3}
use Rattle.math.specs.Vector.{zero_vec}
use Rattle.math.specs.Vector as vector
use Rattle.file_part.specs.declared.read.SurfaceKind.{SurfaceKind}
use Rattle.file_part.specs.declared.read.SurfaceKind.TheVariants.{Plane, Cylinder, Revolved, Other}
use Rattle.file_part.specs.Part.{Part}
use Rattle.solid_faces.specs.Faces.{faces_of, first_polygon}
use Rattle.round_hole.specs.declared.direction.Direction.{Direction}
use Rattle.round_hole.specs.Direction.{goes_round_of}
use Rattle.round_frame.specs.declared.frame.Frame.{Frame}
use Rattle.round_frame.specs.declared.measure.Measure.{Measure}
use Rattle.round_frame.specs.Frame.{frame_of, measure_of}
use Rattle.round_frame.specs.Polygons.{extent_to, votes_to, directions_to}
use Rattle.round_all.specs.declared.round.Round.{Round}

-- ---- "A face's surface is that of its first polygon"
unfoldable pub face_surface : Part → ℕ → SurfaceKind
face_surface t f = (t.polygon (first_polygon t f)).surface

unfoldable pub is_cylinder : SurfaceKind → Bool
is_cylinder Plane = false
is_cylinder (Cylinder o d r) = true
is_cylinder (Revolved o d) = false
is_cylinder Other = false

-- origin, direction and radius of a cylinder; of the other surfaces, of which they are not asked, zeros
unfoldable pub origin_of : SurfaceKind → Vec3
origin_of Plane = zero_vec
origin_of (Cylinder o d r) = o
origin_of (Revolved o d) = zero_vec
origin_of Other = zero_vec

unfoldable pub dir_of : SurfaceKind → Vec3
dir_of Plane = zero_vec
dir_of (Cylinder o d r) = d
dir_of (Revolved o d) = zero_vec
dir_of Other = zero_vec

unfoldable pub radius_of : SurfaceKind → Float
radius_of Plane = vector.zero
radius_of (Cylinder o d r) = r
radius_of (Revolved o d) = vector.zero
radius_of Other = vector.zero

-- ---- a face as a round
unfoldable pub is_round : Part → ℕ → Bool
is_round t f = is_cylinder (face_surface t f)

unfoldable pub face_frame : Part → ℕ → Frame
face_frame t f = frame_of (origin_of (face_surface t f)) (dir_of (face_surface t f))

-- axis, length and centre
unfoldable pub face_measure : Part → ℕ → Measure
face_measure t f = measure_of (face_frame t f) (extent_to t f (face_frame t f) t.polygons)

-- the material is outside the cylinder: `votes < 0.0`
unfoldable pub is_concave : Part → ℕ → Bool
is_concave t f = lt (votes_to t f (face_frame t f) t.polygons) vector.zero

-- of all vertices of all its polygons, repeats included
unfoldable pub directions_of : Part → ℕ → List Direction
directions_of t f = directions_to t f (face_frame t f) t.polygons

-- "A concave round is a hole by directions"
unfoldable pub is_hole : Part → ℕ → Bool
is_hole t f = is_concave t f && goes_round_of (directions_of t f)

-- the round of a face whose surface is a cylinder
unfoldable pub round_of : Part → ℕ → Round
round_of t f =
    record {
      face = f;
      origin = origin_of (face_surface t f);
      axis = (face_measure t f).axis;
      radius = radius_of (face_surface t f);
      concave = is_concave t f;
      hole = is_hole t f;
      length = (face_measure t f).length;
      centre = (face_measure t f).centre;
    }

-- ---- `rounds`: of the faces below n that are rounds, in the faces' order
unfoldable pub rounds_to : Part → ℕ → List Round
rounds_to t zero = []
rounds_to t (suc f) = cond (is_round t f) (rounds_to t f ++ (round_of t f ∷ [])) (rounds_to t f)

unfoldable pub rounds_of : Part → List Round
rounds_of t = rounds_to t (faces_of t)
