-- What the check of a part file answers. Definitions only.
use Rattle.std.specs.Prelude.{Bool, true, false, cond, List, ℕ, leb, length, Result, Ok, Err}
use Rattle.std.specs.Result.{result_and}
use Rattle.refusal.specs.declared.Refusal.{Refusal}
use Rattle.refusal.specs.declared.Refusal.TheVariants.{TooManyFaults, ReportTooLong}
use Rattle.refusal.specs.Numbers.{number}
use Rattle.file_part.specs.Part.{part_of}
use Rattle.scratch.specs.Refusal.{body_result_of}
use Rattle.dfm_core.specs.Faults.{faults_of, report_of}

-- "a definition states this paper's number and values for each of the enum's cases": the number of the refusal, 0 for none
unfoldable pub number_of : Result ℕ Refusal → ℕ
number_of (Ok n) = 0
number_of (Err r) = number r

-- how many bytes the report has; 0 where there is none
unfoldable pub length_of : Result ℕ Refusal → ℕ
length_of (Ok n) = n
length_of (Err r) = 0

unfoldable pub is_accepted : Result ℕ Refusal → Bool
is_accepted (Ok n) = true
is_accepted (Err r) = false

-- ---- by the file and the lent lengths alone
-- "Tested by rising number": 1 to 10, then 11 "more faults than fault rows lent, or over 2,048", then 12 "report longer than its buffer"
unfoldable pub answer_of : List ℕ → ℕ → ℕ → ℕ → ℕ → Result ℕ Refusal
answer_of s words reals rows room =
    result_and (body_result_of s words reals)
    (cond (leb (length (faults_of (part_of s))) rows)
    (cond (leb (length (report_of (part_of s))) room) (Ok (length (report_of (part_of s)))) (Err ReportTooLong)) (Err TooManyFaults))
