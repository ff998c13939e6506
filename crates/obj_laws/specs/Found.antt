-- What the part file reader finds in the part file of a text. Definitions only.
use Rattle.std.specs.Prelude.{◌≡◌, true, List, [], ℕ, ◌+◌, ◌<◌, length, get_or, take}
use Rattle.file_job.specs.Job.{job_at, name_at}
use Rattle.file_job_ok.specs.Rules.{job_good}
use Rattle.file_part.specs.declared.read.SurfaceKind.TheVariants.{Plane}
use Rattle.file_part.specs.Part.{Part}
use Rattle.obj_text.specs.Text.{Face, faces_of, corners_from, corners_of, vertex_of}

-- face p of a text, by the order of its `f` lines, from 0 on
unfoldable pub no_face : Face
no_face = record { index = 0; numbers = [] }

unfoldable pub face_of : List ℕ → ℕ → Face
face_of text p = get_or (faces_of text) p no_face

-- polygon p of a part is face p of a text: "feature 1, all planes", the line's face index, and the vertices of the line's numbers in their order
pub record SamePolygon (text : List ℕ) (t : Part) (p : ℕ) : Type 0 where
  pub feature : (t.polygon p).face.feature ≡ 1
  pub index : (t.polygon p).face.index ≡ (face_of text p).index
  pub surface : (t.polygon p).surface ≡ Plane
  pub count : (t.polygon p).count ≡ length (face_of text p).numbers
  pub corner : (k : ℕ) → k < (t.polygon p).count → t.vertex ((t.polygon p).first + k) ≡ vertex_of text (get_or (face_of text p).numbers k 0)

-- "The part file reader .. must then find exactly the polygons of the text, in the order of their `f` lines"
pub record SamePolygons (text : List ℕ) (t : Part) : Type 0 where
  pub polygons : t.polygons ≡ length (faces_of text)
  pub polygon : (p : ℕ) → p < t.polygons → SamePolygon text t p

-- "vertices repeated per polygon": the corners of all faces, one after the other
pub record SameVertices (text : List ℕ) (t : Part) : Type 0 where
  pub vertices : t.vertices ≡ length (corners_of text)
  pub vertex : (i : ℕ) → i < t.vertices → t.vertex i ≡ vertex_of text (get_or (corners_of text) i 0)
  pub first : (p : ℕ) → p < t.polygons → (t.polygon p).first ≡ length (corners_from (take p (faces_of text)))

-- "and the job that the caller gives as 128 bytes"; the name where its length is within the rules
pub record SameJob (job : List ℕ) (t : Part) : Type 0 where
  pub job_is : t.job ≡ job_at job 0
  pub name_is : job_good job 0 ≡ true → t.name ≡ name_at job 0
