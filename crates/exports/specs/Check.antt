-- What a call of the check from Rust or C leaves. Definitions only.
use Rattle.std.specs.Prelude.{◌≡◌, cond, List, ℕ, Float, Result}
use Rattle.refusal.specs.declared.Refusal.{Refusal}
use Rattle.fault_row.specs.declared.row.FaultRow.{FaultRow}
use Rattle.dfm.specs.dfm_core.specs.Answer.{number_of, length_of, is_accepted}
use Rattle.dfm.specs.Check.{Outcome}

-- The outcome of the check, its answer told by two numbers: the refusal's, 0 for none, and the report's length, which is set where there is a report
-- and else unchanged.
pub record Checks (s words words' : List ℕ) (reals reals' : List Float) (rows rows' : List FaultRow) (report report' : List ℕ) (old new r : ℕ) : Type 0 where
  pub answer : Result ℕ Refusal
  pub outcome : Outcome s words words' reals reals' rows rows' report report' answer
  pub refusal : r ≡ number_of answer
  pub written : new ≡ cond (is_accepted answer) (length_of answer) old
