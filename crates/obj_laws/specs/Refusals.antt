-- Which refusals the part file of a text can meet. Definitions only.
use Rattle.std.specs.Prelude.{⊤, Bool, not, cond, List, ℕ, length, get_or, Result, Ok, Err}
use Rattle.refusal.specs.declared.Refusal.{Refusal}
use Rattle.refusal.specs.declared.Refusal.TheVariants.{BadJob, BadVertex}
use Rattle.refusal.specs.Numbers.{bad_job_of, bad_vertex_of, flat_polygon_of, too_many_faces_of}
use Rattle.list_laws.specs.Below.{all_below}
use Rattle.file_field.specs.Test.{is_point}
use Rattle.file_job_ok.specs.Rules.{job_good}
use Rattle.obj_text.specs.Text.{corners_of, vertex_of}

-- each corner of a text has coordinates in their range
unfoldable pub corners_good : List ℕ → Bool
corners_good text = all_below (length (corners_of text)) (λ i. is_point (vertex_of text (get_or (corners_of text) i 0)))

-- of 1 to 7: 5 where the job given is out of its rules, else 6 where a corner is
unfoldable pub text_verdict : List ℕ → List ℕ → Result ⊤ Refusal
text_verdict text job = cond (not (job_good job 0)) (Err BadJob) (cond (not (corners_good text)) (Err BadVertex) (Ok tt))

-- "The written file can meet 5, 6, 8 and 9 when it is checked"; 0 for none. 10 to 12 are of what is lent beside the file
pub data CanMeet : ℕ → Type 0 where
  none : CanMeet 0
  bad_job : CanMeet bad_job_of
  bad_vertex : CanMeet bad_vertex_of
  flat_polygon : CanMeet flat_polygon_of
  too_many_faces : CanMeet too_many_faces_of
