-- What a line of OBJ text says. Definitions only.
use Rattle.std.specs.Prelude.{◌≡◌, Bool, true, ◌&&◌, cond, List, [], ◌∷◌, map, ℕ, ◌^◌, max, eqb, leb, ltb, length}
use Rattle.std.proofs.lemmas.List.Edits.{sets}
use Rattle.math.specs.declared.Vec3.{Vec3}
use Rattle.obj_number.specs.Whole.{is_whole, value_of, capped}
use Rattle.obj_number.specs.Decimal.{is_decimal, decimal_of}
use Rattle.obj_line.specs.declared.line.Line.{Line}
use Rattle.obj_line.specs.Split.{fields_of}

-- a vertex, the vertex numbers of a face, a face index, a line to skip, or a line of any other form
pub data Form : Type 0 where
  vertex : Vec3 → Form
  face : List ℕ → Form
  group : ℕ → Form
  skipped : Form
  other : Form

-- "`v` lines (three decimal numbers, ..)"
unfoldable pub vertex_form : List (List ℕ) → Form
vertex_form [] = other
vertex_form (x ∷ []) = other
vertex_form (x ∷ y ∷ []) = other
vertex_form (x ∷ y ∷ z ∷ []) =
    cond (is_decimal x && is_decimal y && is_decimal z) (vertex record { x = decimal_of x; y = decimal_of y; z = decimal_of z }) other
vertex_form (x ∷ y ∷ z ∷ w ∷ fs) = other

-- "positive vertex numbers"
unfoldable pub is_positive : List ℕ → Bool
is_positive f = is_whole f && leb 1 (value_of f)

unfoldable pub all_positive : List (List ℕ) → Bool
unfolding is_positive
all_positive [] = true
all_positive (f ∷ fs) = is_positive f && all_positive fs

-- "`f` lines (3 to 64 positive vertex numbers, no slashes)"
unfoldable pub face_form : List (List ℕ) → Form
unfolding all_positive
face_form fs = cond (all_positive fs && leb 3 (length fs) && leb (length fs) 64) (face (map value_of fs)) other

-- "`g` lines (a whole number below 2^32, the face index, ..)"
unfoldable pub group_form : List (List ℕ) → Form
group_form [] = other
group_form (n ∷ []) = cond (is_whole n && ltb (value_of n) (2 ^ 32)) (group (value_of n)) other
group_form (n ∷ m ∷ fs) = other

-- by the line's first field: 118, 102 and 103 are the bytes of v, f and g
unfoldable pub fields_form : List (List ℕ) → Form
unfolding vertex_form face_form group_form
fields_form [] = other
fields_form ([] ∷ fs) = other
fields_form ((b ∷ []) ∷ fs) = cond (eqb b 118) (vertex_form fs) (cond (eqb b 102) (face_form fs) (cond (eqb b 103) (group_form fs) other))
fields_form ((b ∷ c ∷ w) ∷ fs) = other

-- "empty lines and lines starting with # are skipped": 35 is the byte of #
unfoldable pub form_of : List ℕ → Form
unfolding fields_form
form_of [] = skipped
form_of (b ∷ l) = cond (eqb b 35) skipped (fields_form (fields_of (b ∷ l)))

-- ---- what the code keeps of a line: of a face, how many numbers, and the largest up to 2 ^ 63
unfoldable pub largest : List ℕ → ℕ
largest [] = 0
largest (n ∷ ns) = max n (largest ns)

unfoldable pub line_of : Form → Line
unfolding largest
line_of (vertex v) = Line.Vertex v
line_of (face ns) = Line.Face record { count = length ns; largest = capped (largest ns) }
line_of (group n) = Line.Group n
line_of skipped = Line.Skipped
line_of other = Line.Other

-- the vertex numbers of a line
unfoldable pub numbers_of : Form → List ℕ
numbers_of (vertex v) = []
numbers_of (face ns) = ns
numbers_of (group i) = []
numbers_of skipped = []
numbers_of other = []

-- A line as it is read: what it is, and the vertex numbers of a face in a table from the place `used` on, each up to 2 ^ 63
pub record Read (f : Form) (before : List ℕ) (used : ℕ) (after : List ℕ) (r : Line) : Type 0 where
  pub line : r ≡ line_of f
  pub same_length : length after ≡ length before
  pub stored : (f ≡ other → ⊥) → after ≡ sets before used (map capped (numbers_of f))
