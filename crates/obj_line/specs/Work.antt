-- What private functions leave on the way; a reader may pass over it. Definitions only.
use Rattle.std.specs.Prelude.{◌≡◌, ◌&&◌, cond, List, [], ◌∷◌, ℕ, suc, ◌+◌, ◌-◌, ◌≤◌, ◌<◌, max, eqb, leb, length, take, drop, get_or, Option, Some, None}
use Rattle.obj_number.specs.Whole.{value_of, capped}
use Rattle.obj_line.specs.declared.line.Line.{Line}
use Rattle.obj_line.specs.Split.{split, squeeze}
use Rattle.obj_line.specs.Form.{is_positive, form_of, line_of}

-- how many spaces a list begins with
unfoldable pub spaces_of : List ℕ → ℕ
spaces_of [] = 0
spaces_of (c ∷ l) = cond (eqb c 32) (suc (spaces_of l)) 0

-- the fields of what is left where a field has ended: at the line's end, or at a space
unfoldable pub fields_after : List ℕ → List (List ℕ)
unfolding split squeeze
fields_after [] = []
fields_after (c ∷ l) = squeeze (split 32 l)

-- the first field, empty where there is none, and the others
unfoldable pub first : List (List ℕ) → List ℕ
first [] = []
first (f ∷ fs) = f

unfoldable pub others : List (List ℕ) → List (List ℕ)
others [] = []
others (f ∷ fs) = fs

-- the field after the place at reaches from one place to another
pub record Next (line : List ℕ) (at from to : ℕ) : Type 0 where
  pub ordered : from ≤ to
  pub inside : to ≤ length line
  pub further : at < length line → at < from
  pub field : take (to - from) (drop from line) ≡ first (fields_after (drop at line))
  pub rest : fields_after (drop to line) ≡ others (fields_after (drop at line))

-- a face's line from its fields, after so many numbers of which one is the largest
unfoldable pub face_line : ℕ → ℕ → List (List ℕ) → Line
face_line count most [] = cond (leb 3 count && leb count 64) (Line.Face record { count = count; largest = most }) Line.Other
face_line count most (f ∷ fs) = cond (is_positive f) (face_line (count + 1) (max most (capped (value_of f))) fs) Line.Other

-- the number of a field, as the table has it
unfoldable pub cell_of : List ℕ → ℕ
cell_of f = capped (value_of f)

-- a line from what was read of it, and of any other form where nothing was
abbrev pub or_other : {A : Type 0} → (A → Line) → Option A → Line
or_other line (Some x) = line x
or_other line None = Line.Other

-- a line that begins with a v, 118; any other is passed over
unfoldable pub vertex_line : List ℕ → Line
vertex_line l = cond (eqb (get_or l 0 0) 118) (line_of (form_of l)) Line.Skipped
