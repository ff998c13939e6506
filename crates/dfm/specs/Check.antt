-- What the check of a part file answers, and what it leaves in each lent buffer. Definitions only.
use Rattle.std.specs.Prelude.{◌≡◌, ◌≢◌, true, false, List, ◌++◌, ℕ, min, length, drop, replicate, Float, Result}
use Rattle.refusal.specs.declared.Refusal.{Refusal}
use Rattle.math.specs.Vector.{zero}
use Rattle.file_part.specs.Part.{Part, part_of}
use Rattle.scratch.specs.Refusal.{body_refusal_of}
use Rattle.fault_row.specs.declared.row.FaultRow.{FaultRow}
use Rattle.fault_rows.specs.Rows.{zero_row_of}
use Rattle.fault_lines.specs.Line.{Line}
use Rattle.fault_lines.specs.Listed.{Listed}
use Rattle.dfm_core.specs.report.specs.Text.{report_text}
use Rattle.dfm_core.specs.Faults.{faults_of, summary_of}
use Rattle.dfm_core.specs.Answer.{is_accepted, answer_of}

-- ---- the buffers
-- "1 to 10 .. change no buffer"
pub record Untouched (words words' : List ℕ) (reals reals' : List Float) (rows rows' : List FaultRow) : Type 0 where
  pub words_same : words' ≡ words
  pub reals_same : reals' ≡ reals
  pub rows_same : rows' ≡ rows

-- "11, 12 and an accepted check leave scratch and rows all zero"
pub record Cleared (words words' : List ℕ) (reals reals' : List Float) (rows rows' : List FaultRow) : Type 0 where
  pub words_zero : words' ≡ replicate (length words) 0
  pub reals_zero : reals' ≡ replicate (length reals) zero
  pub rows_zero : rows' ≡ replicate (length rows) zero_row_of

-- Demand 3: "after every accepted check the report's lines are exactly these, in this order, printed as below". No other lines are `Listed`
-- (`determined` of fault_lines). "An accepted report .. fills the first bytes of its buffer and changes none after them."
pub record Printed (t : Part) (report report' : List ℕ) : Type 0 where
  pub lines : List Line
  pub listed : Listed (faults_of t) lines
  pub buffer : report' ≡ report_text (summary_of t) lines ++ drop (length (report_text (summary_of t) lines)) report

-- ---- the outcome of a call
-- 11: "more faults than fault rows lent, or over 2,048"
pub record Outcome (s words words' : List ℕ) (reals reals' : List Float) (rows rows' : List FaultRow) (report report' : List ℕ) (r : Result ℕ Refusal) : Type 0 where
  pub answer : r ≡ answer_of s (length words) (length reals) (min 2048 (length rows)) (length report)
  pub untouched : (body_refusal_of s (length words) (length reals) ≢ 0) → Untouched words words' reals reals' rows rows'
  pub cleared : body_refusal_of s (length words) (length reals) ≡ 0 → Cleared words words' reals reals' rows rows'
  -- every refusal leaves "the report buffer unchanged"
  pub unreported : is_accepted r ≡ false → report' ≡ report
  pub printed : is_accepted r ≡ true → Printed (part_of s) report report'
