-- Flat faces: "A face's surface is that of its first polygon". Definitions only.
use Rattle.std.specs.Prelude.{Bool, true, false, ℕ}
use Rattle.math.specs.declared.Vec3.{Vec3}
use Rattle.file_part.specs.declared.read.SurfaceKind.{SurfaceKind}
use Rattle.file_part.specs.declared.read.SurfaceKind.TheVariants.{Plane, Cylinder, Revolved, Other}
use Rattle.file_part.specs.Part.{Part}
use Rattle.solid_faces.specs.Faces.{first_polygon, polygon_plane}
use Rattle.round_all.specs.Round.{face_surface}

unfoldable pub is_plane : SurfaceKind → Bool
is_plane Plane = true
is_plane (Cylinder o d r) = false
is_plane (Revolved o d) = false
is_plane Other = false

-- `f.kind == SurfaceKind::Plane`
unfoldable pub is_flat_face : Part → ℕ → Bool
is_flat_face t f = is_plane (face_surface t f)

-- the normal of its first polygon: `part.body.polygons[p0].normal`
unfoldable pub face_normal : Part → ℕ → Vec3
face_normal t f = (polygon_plane t (first_polygon t f)).normal
