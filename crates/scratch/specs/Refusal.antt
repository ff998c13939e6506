-- Why the body of a part is not put into the scratch. Definitions only.
use Rattle.std.specs.Prelude.{⊤, Bool, ◌||◌, cond, List, ℕ, ltb, Result, Ok, Err}
use Rattle.std.specs.Result.{result_and}
use Rattle.refusal.specs.declared.Refusal.{Refusal}
use Rattle.refusal.specs.declared.Refusal.TheVariants.{TooLittleScratch}
use Rattle.file_part.specs.Layout.{vertex_count_of, polygon_count_of}
use Rattle.file_ok.specs.Verdict.{number}
use Rattle.solid_faces.specs.Faces.{body_verdict}
use Rattle.scratch.specs.Regions.{words_needed, reals_needed}

-- 10: fewer cells than document 01 asks for
unfoldable pub too_little : List ℕ → ℕ → ℕ → Bool
too_little s words reals = ltb words (words_needed (polygon_count_of s) (vertex_count_of s)) || ltb reals (reals_needed (polygon_count_of s) (vertex_count_of s))

-- refusals 1 to 9 by the file, then 10
unfoldable pub body_result_of : List ℕ → ℕ → ℕ → Result ⊤ Refusal
body_result_of s words reals = result_and (body_verdict s) (cond (too_little s words reals) (Err TooLittleScratch) (Ok tt))

-- the number of the refusal; 0 for none
unfoldable pub body_refusal_of : List ℕ → ℕ → ℕ → ℕ
body_refusal_of s words reals = number (body_result_of s words reals)
