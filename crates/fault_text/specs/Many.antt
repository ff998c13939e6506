-- The faces of the kinds that have many of them, found again from the part. Definitions only.
use Rattle.std.specs.Prelude.{Bool, ◌&&◌, cond, List, [], ◌∷◌, ◌++◌, ℕ, zero, suc, eqb}
use Rattle.file_part.specs.declared.read.FaceId.{FaceId}
use Rattle.file_part.specs.Part.{Part}
use Rattle.solid_faces.specs.Faces.{faces_of, face_number}
use Rattle.solid_ids.specs.Ids.{id_of}
use Rattle.solid_bodies.specs.Body.{some_below, body_of}
use Rattle.solid_ranks.specs.Ranks.{face_of_rank}
use Rattle.sheet_thickness.specs.Thickness.{is_off_face}
use Rattle.print_overhang.specs.Overhang.{is_overhang}

-- dfm.rs's `sort` and `dedup`: the ids of the faces that pass the test, of ranks below n, in rising order
unfoldable pub ids_to : Part → (ℕ → Bool) → ℕ → List FaceId
ids_to t test zero = []
ids_to t test (suc n) = ids_to t test n ++ cond (test (face_of_rank t n)) (id_of t (face_of_rank t n) ∷ []) []

-- face f has a polygon of the body that goes by b
unfoldable pub face_of_body : Part → ℕ → ℕ → Bool
face_of_body t b f = some_below t.polygons (λ p. eqb (face_number t p) f && eqb (body_of t p) b)

-- the faces of the hollow whose lowest polygon is b
unfoldable pub hollow_faces : Part → ℕ → List FaceId
hollow_faces t b = ids_to t (face_of_body t b) (faces_of t)

-- the faces of the readings that are off the thickness of the sheet
unfoldable pub off_faces : Part → List FaceId
off_faces t = ids_to t (is_off_face t) (faces_of t)

-- the faces that hang over
unfoldable pub overhang_faces : Part → List FaceId
overhang_faces t = ids_to t (is_overhang t) (faces_of t)
