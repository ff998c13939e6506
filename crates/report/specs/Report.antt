-- What writing a text into the report's buffer leaves. Definitions only.
use Rattle.std.specs.Prelude.{◌≡◌, Bool, cond, List, ◌++◌, ℕ, leb, length, drop, Result, Ok, Err}
use Rattle.refusal.specs.declared.Refusal.{Refusal}
use Rattle.refusal.specs.declared.Refusal.TheVariants.{ReportTooLong}
use Rattle.refusal.specs.Numbers as refusal
use Rattle.refusal.specs.Numbers.{report_too_long}

-- "a definition states this paper's number and values for each of the enum's cases": the number of the refusal, 0 for none
unfoldable pub number_of : Result ℕ Refusal → ℕ
number_of (Ok n) = 0
number_of (Err r) = refusal.number r

-- how many bytes the report has; 0 where there is none
unfoldable pub length_of : Result ℕ Refusal → ℕ
length_of (Ok n) = n
length_of (Err r) = 0

-- 12: "report longer than its buffer" fails
unfoldable pub fits : List ℕ → List ℕ → Bool
fits text report = leb (length text) (length report)

-- "An accepted report .. fills the first bytes of its buffer and changes none after them"; 12 leaves "the report buffer unchanged"
pub record Reported (text report report' : List ℕ) (r : Result ℕ Refusal) : Type 0 where
  pub answer : r ≡ cond (fits text report) (Ok (length text)) (Err ReportTooLong)
  pub number : number_of r ≡ cond (fits text report) 0 report_too_long
  pub size : length_of r ≡ cond (fits text report) (length text) 0
  pub buffer : report' ≡ cond (fits text report) (text ++ drop (length text) report) report
