-- What the programs print of an answer. Definitions only.
use Rattle.std.specs.Prelude.{◌≡◌, true, false, List, ◌++◌, ℕ, Result}
use Rattle.refusal.specs.declared.Refusal.{Refusal}
use Rattle.num_text.specs.Number.{numeral}
use Rattle.num_text.specs.Put.{bytes, Put}
use Rattle.dfm_core.specs.Answer.{number_of, length_of, is_accepted}

-- "`refused` with a blank and the number", ended by a line feed
unfoldable pub refusal_line : ℕ → List ℕ
refusal_line k = bytes "refused " ++ (numeral k ++ bytes "\n")

-- What is printed stands in the first r bytes of the report's buffer: the report as it was written there, or the line of the refusal.
pub record AnswerPut (answer : Result ℕ Refusal) (report report' : List ℕ) (r : ℕ) : Type 0 where
  pub accepted : is_accepted answer ≡ true → (report' ≡ report) × (r ≡ length_of answer)
  pub refused : is_accepted answer ≡ false → Put report 0 (refusal_line (number_of answer)) report' r
