-- What a part file says: the part that every later definition starts from. Definitions only.
use Rattle.std.specs.Prelude.{cond, List, ℕ, ◌+◌, ◌*◌, eqb}
use Rattle.file_job.specs.math.specs.declared.Vec3.{Vec3}
use Rattle.file_job.specs.file_field.specs.Field.{u32_at, f64_at, vec_at_of}
use Rattle.file_job.specs.declared.Job.{Job}
use Rattle.file_job.specs.Job.{job_at, name_at}
use Rattle.file_part.specs.declared.read.FaceId.{FaceId}
use Rattle.file_part.specs.declared.read.SurfaceKind.{SurfaceKind}
use Rattle.file_part.specs.declared.read.SurfaceKind.TheVariants.{Plane, Cylinder, Revolved, Other}
use Rattle.file_part.specs.Layout.{vertex_count_of, polygon_count_of, entry_at}

-- "u32 feature, index": the name of the face that a polygon is of
unfoldable pub face_at : List ℕ → ℕ → FaceId
face_at s at = record { feature = u32_at s at; index = u32_at s (at + 4) }

-- "kind (0 plane, 1 cylinder, 2 revolved, 3 other)", "f64 origin (3), direction (3), radius"
unfoldable pub surface_of : ℕ → List ℕ → ℕ → SurfaceKind
surface_of kind s at =
    cond (eqb kind 0) Plane
    (cond (eqb kind 1) (Cylinder (vec_at_of s (at + 24)) (vec_at_of s (at + 48)) (f64_at s (at + 72)))
    (cond (eqb kind 2) (Revolved (vec_at_of s (at + 24)) (vec_at_of s (at + 48))) Other))

unfoldable pub surface_at : List ℕ → ℕ → SurfaceKind
surface_at s at = surface_of (u32_at s (at + 16)) s at

-- "first vertex, vertex count"
unfoldable pub first_at : List ℕ → ℕ → ℕ
first_at s at = u32_at s (at + 8)

unfoldable pub count_at_of : List ℕ → ℕ → ℕ
count_at_of s at = u32_at s (at + 12)

-- a polygon: its face, its surface, and its run of vertices
pub record Polygon : Type 0 where
  pub face : FaceId
  pub surface : SurfaceKind
  pub first : ℕ
  pub count : ℕ

-- the entry at a place
unfoldable pub polygon_at : List ℕ → ℕ → Polygon
polygon_at s at = record { face = face_at s at; surface = surface_at s at; first = first_at s at; count = count_at_of s at }

-- a part: V vertices and P polygons by their numbers, the job, and the material's name
pub record Part : Type 0 where
  pub vertices : ℕ
  pub polygons : ℕ
  pub vertex : ℕ → Vec3
  pub polygon : ℕ → Polygon
  pub job : Job
  pub name : List ℕ

-- from the file's bytes to the part
unfoldable pub part_of : List ℕ → Part
part_of s = record {
  vertices = vertex_count_of s;
  polygons = polygon_count_of s;
  vertex = λ i. vec_at_of s (24 * i);
  polygon = λ p. polygon_at s (entry_at (vertex_count_of s) p);
  job = job_at s (entry_at (vertex_count_of s) (polygon_count_of s));
  name = name_at s (entry_at (vertex_count_of s) (polygon_count_of s));
}
