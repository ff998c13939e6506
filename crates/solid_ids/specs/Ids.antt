-- The ids of faces, in the order in which the Rust's sorted maps hold them. Definitions only.
use Rattle.std.specs.Prelude.{Bool, ◌&&◌, ◌||◌, ℕ, eqb, ltb}
use Rattle.file_part.specs.declared.read.FaceId.{FaceId}
use Rattle.file_part.specs.Part.{Part}
use Rattle.solid_faces.specs.Faces.{first_polygon}

-- ids as the Rust orders them: by feature, then by index
unfoldable pub id_before : FaceId → FaceId → Bool
id_before a b = ltb a.feature b.feature || (eqb a.feature b.feature && ltb a.index b.index)

-- the id of face f, which all its polygons have
unfoldable pub id_of : Part → ℕ → FaceId
id_of t f = (t.polygon (first_polygon t f)).face

-- face g has a lower id than face h
unfoldable pub face_before : Part → ℕ → ℕ → Bool
face_before t g h = id_before (id_of t g) (id_of t h)
