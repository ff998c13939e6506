-- Face ids as text: "faces (feature:index, comma between, `-` for none)". Definitions only.
use Rattle.std.specs.Prelude.{List, [], ◌∷◌, ◌++◌, ℕ}
use Rattle.num_text.specs.Number.{numeral}
use Rattle.file_part.specs.declared.read.FaceId.{FaceId}

-- 58 is the colon
unfoldable pub id_text : FaceId → List ℕ
id_text a = numeral a.feature ++ (58 ∷ numeral a.index)

-- ids after others: 44 is the comma
unfoldable pub more_text : List FaceId → List ℕ
more_text [] = []
more_text (a ∷ rest) = 44 ∷ (id_text a ++ more_text rest)

-- 45 is the dash
unfoldable pub faces_text : List FaceId → List ℕ
faces_text [] = 45 ∷ []
faces_text (a ∷ rest) = id_text a ++ more_text rest
