-- What private functions leave on the way; a reader may pass over it. Definitions only.
use Rattle.std.specs.Prelude.{◌≡◌, cond, List, [], ◌∷◌, map, ℕ, ◌+◌, min, leb, length, drop, Result, Ok, Err, Float}
use Rattle.std.proofs.lemmas.List.Edits.{sets}
use Rattle.refusal.specs.declared.Refusal.{Refusal}
use Rattle.refusal.specs.declared.Refusal.TheVariants.{BadLine, UndefinedVertex}
use Rattle.math.specs.declared.Vec3.{Vec3}
use Rattle.obj_line.specs.declared.line.Line.{Line}
use Rattle.obj_line.specs.Split.{split}
use Rattle.obj_line.specs.Form.{Form, vertex, face, group, skipped, other, form_of, line_of, Read}
use Rattle.obj_text.specs.declared.judge.Tally.{Tally}
use Rattle.obj_text.specs.Judged.{Tables}

-- the tally after one more line, or its refusal
unfoldable pub tallied : Tally → Line → Result Tally Refusal
tallied t (Line.Vertex v) = Ok record { defined = t.defined + 1; corners = t.corners; polygons = t.polygons; index = t.index }
tallied t (Line.Face c) =
    cond (leb c.largest t.defined)
    (Ok record { defined = t.defined; corners = min (t.corners + c.count) 16385; polygons = min (t.polygons + 1) 4097; index = t.index })
    (Err UndefinedVertex)
tallied t (Line.Group n) = Ok record { defined = t.defined; corners = t.corners; polygons = t.polygons; index = n }
tallied t Line.Skipped = Ok t
tallied t Line.Other = Err BadLine

-- and after more lines, up to one that is refused
unfoldable pub tally_from : Result Tally Refusal → List Form → Result Tally Refusal
unfolding tallied
tally_from (Err e) fs = Err e
tally_from (Ok t) [] = Ok t
tally_from (Ok t) (f ∷ fs) = tally_from (tallied t (line_of f)) fs

-- the lines from a place where one begins; past the text's end there is none
unfoldable pub lines_from : List ℕ → ℕ → List (List ℕ)
lines_from text at = cond (leb at (length text)) (split 10 (drop at text)) []

unfoldable pub forms_from : List ℕ → ℕ → List Form
unfolding lines_from
forms_from text at = map form_of (lines_from text at)

unfoldable pub start : Tally
start = record { defined = 0; corners = 0; polygons = 0; index = 0 }

-- ---- what one line adds to the tables
unfoldable pub vertex_in : Line → List Vec3
vertex_in (Line.Vertex v) = v ∷ []
vertex_in (Line.Face c) = []
vertex_in (Line.Group n) = []
vertex_in Line.Skipped = []
vertex_in Line.Other = []

unfoldable pub index_in : ℕ → Line → List ℕ
index_in i (Line.Vertex v) = []
index_in i (Line.Face c) = i ∷ []
index_in i (Line.Group n) = []
index_in i Line.Skipped = []
index_in i Line.Other = []

unfoldable pub count_in : Line → List ℕ
count_in (Line.Vertex v) = []
count_in (Line.Face c) = c.count ∷ []
count_in (Line.Group n) = []
count_in Line.Skipped = []
count_in Line.Other = []

pub record KeptVertex (line : Line) (n : ℕ) (xs ys zs xs' ys' zs' : List Float) : Type 0 where
  pub x_then : xs' ≡ sets xs n (map (λ (v : Vec3). v.x) (vertex_in line))
  pub y_then : ys' ≡ sets ys n (map (λ (v : Vec3). v.y) (vertex_in line))
  pub z_then : zs' ≡ sets zs n (map (λ (v : Vec3). v.z) (vertex_in line))

pub record KeptFace (line : Line) (p index : ℕ) (is cs is' cs' : List ℕ) : Type 0 where
  pub index_then : is' ≡ sets is p (index_in index line)
  pub count_then : cs' ≡ sets cs p (count_in line)

pub record NotedLine (f : Form) (t : Tally) (a b : Tables) (r : Result Tally Refusal) : Type 0 where
  pub tally : r ≡ tallied t (line_of f)
  pub read : Read f a.numbers t.corners b.numbers (line_of f)
  pub faces : KeptFace (line_of f) t.polygons t.index a.indices a.counts b.indices b.counts
  pub vertices : KeptVertex (line_of f) t.defined a.xs a.ys a.zs b.xs b.ys b.zs

-- the index in use after a line
unfoldable pub index_after : ℕ → Form → ℕ
index_after i (vertex v) = i
index_after i (face ns) = i
index_after i (group j) = j
index_after i skipped = i
index_after i other = i
