-- The thickness readings of a part by their pairs of faces. Definitions only.
use Rattle.std.specs.Prelude.{false, List, [], ◌∷◌, ℕ, length, Float}
use Rattle.std.specs.Float.{inf}
use Rattle.num_real.specs.Select.{min_of}
use Rattle.file_part.specs.Part.{Part}
use Rattle.solid_faces.specs.Faces.{face_number}
use Rattle.solid_pairs.specs.Pairs.{over_face_pairs}
use Rattle.wall_samples.specs.Samples.{readings_of}
use Rattle.wall_samples.specs.Stored.{reading}

-- the faces that reading s goes from and to: `s.face` and `s.hit`
unfoldable pub face_from : Part → ℕ → ℕ
face_from t s = face_number t (reading (readings_of t) s).polygon

unfoldable pub face_hit : Part → ℕ → ℕ
face_hit t s = face_number t (reading (readings_of t) s).hit

-- `for ((a, b), t) in thinnest`: what h makes of each two faces with readings between them, by rising ids, and of those readings
unfoldable pub over_walls : {X : Type 0} → Part → (ℕ → ℕ → List ℕ → List X) → List X
over_walls t h = over_face_pairs t (face_from t) (face_hit t) (length (readings_of t)) h

-- `*e = e.min(s.thickness)`, one reading after the other, from x on ..
unfoldable pub least_from : Part → Float → List ℕ → Float
least_from t x [] = x
least_from t x (s ∷ l) = least_from t (min_of x (reading (readings_of t) s).thickness) l

-- .. which is `or_insert(f64::INFINITY)`
unfoldable pub least_of : Part → List ℕ → Float
least_of t l = least_from t (inf false) l
