-- What OBJ text says. Definitions only.
use Rattle.std.specs.Prelude.{⊤, Result, Ok, Err, cond, List, [], ◌∷◌, ◌++◌, map, ℕ, ◌+◌, ◌-◌, leb, get_or}
use Rattle.std.specs.Float.{binary64}
use Rattle.std.specs.Float.Ieee.{of_bits}
use Rattle.refusal.specs.declared.Refusal.{Refusal}
use Rattle.refusal.specs.declared.Refusal.TheVariants.{BadLine, UndefinedVertex}
use Rattle.math.specs.declared.Vec3.{Vec3}
use Rattle.obj_line.specs.Split.{lines_of}
use Rattle.obj_line.specs.Form.{Form, vertex, face, group, skipped, other, form_of, largest}

-- the lines in their order
unfoldable pub forms_of : List ℕ → List Form
forms_of text = map form_of (lines_of text)

-- ---- "It refuses with 14 a line of any other form and with 15 a vertex number not yet defined, tested in line order, form first"
-- the refusal of lines before which n vertices are defined
unfoldable pub refusal_from : ℕ → List Form → Result ⊤ Refusal
refusal_from n [] = Ok tt
refusal_from n (vertex v ∷ fs) = refusal_from (n + 1) fs
refusal_from n (face ns ∷ fs) = cond (leb (largest ns) n) (refusal_from n fs) (Err UndefinedVertex)
refusal_from n (group i ∷ fs) = refusal_from n fs
refusal_from n (skipped ∷ fs) = refusal_from n fs
refusal_from n (other ∷ fs) = Err BadLine

unfoldable pub line_refusal : List ℕ → Result ⊤ Refusal
unfolding refusal_from forms_of
line_refusal text = refusal_from 0 (forms_of text)

-- ---- what is read of a text that neither refuses
-- the vertices, of which the first has the number 1
unfoldable pub vertices_from : List Form → List Vec3
vertices_from [] = []
vertices_from (vertex v ∷ fs) = v ∷ vertices_from fs
vertices_from (face ns ∷ fs) = vertices_from fs
vertices_from (group i ∷ fs) = vertices_from fs
vertices_from (skipped ∷ fs) = vertices_from fs
vertices_from (other ∷ fs) = vertices_from fs

unfoldable pub vertices_of : List ℕ → List Vec3
unfolding vertices_from forms_of
vertices_of text = vertices_from (forms_of text)

-- a face: its index and its vertex numbers
pub record Face : Type 0 where
  pub index : ℕ
  pub numbers : List ℕ

-- "the face index, used until the next; 0 before the first"; "in the order of their `f` lines"
unfoldable pub faces_from : ℕ → List Form → List Face
faces_from i [] = []
faces_from i (vertex v ∷ fs) = faces_from i fs
faces_from i (face ns ∷ fs) = record { index = i; numbers = ns } ∷ faces_from i fs
faces_from i (group j ∷ fs) = faces_from j fs
faces_from i (skipped ∷ fs) = faces_from i fs
faces_from i (other ∷ fs) = faces_from i fs

unfoldable pub faces_of : List ℕ → List Face
unfolding faces_from forms_of
faces_of text = faces_from 0 (forms_of text)

-- "vertices repeated per polygon": the numbers of all corners, face by face
unfoldable pub corners_from : List Face → List ℕ
corners_from [] = []
corners_from (f ∷ fs) = f.numbers ++ corners_from fs

unfoldable pub corners_of : List ℕ → List ℕ
unfolding corners_from faces_of
corners_of text = corners_from (faces_of text)

-- the vertex of a number. Where 15 does not refuse, it is one of those defined before the face, so that it makes no difference to look among all
unfoldable pub origin : Vec3
origin = record { x = of_bits binary64 0; y = of_bits binary64 0; z = of_bits binary64 0 }

unfoldable pub vertex_of : List ℕ → ℕ → Vec3
unfolding vertices_of origin
vertex_of text n = get_or (vertices_of text) (n - 1) origin
