-- What a check with fault rows of its own answers and leaves. Definitions only.
use Rattle.std.specs.Prelude.{List, ℕ, replicate, Float, Result}
use Rattle.refusal.specs.declared.Refusal.{Refusal}
use Rattle.fault_row.specs.declared.row.FaultRow.{FaultRow}
use Rattle.fault_rows.specs.Rows.{zero_row_of}
use Rattle.dfm.specs.Check.{Outcome}

-- the outcome of the check, with so many rows lent
pub record OwnOutcome (lent : ℕ) (s words words' : List ℕ) (reals reals' : List Float) (report report' : List ℕ) (r : Result ℕ Refusal) : Type 0 where
  pub rows' : List FaultRow
  pub outcome : Outcome s words words' reals reals' (replicate lent zero_row_of) rows' report report' r
