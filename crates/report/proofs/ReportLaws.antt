-- Laws of the whole report: what measuring it tells, and that its contract leaves nothing open.
use mathlib.Core.Path.{◌≡◌, sym, ap, ◌∙◌}
use mathlib.Core.Bool.{true, false}
use mathlib.Core.List.{List}
use Prim.Native.Nat.{ℕ, ◌≤◌, ◌<◌}
use native.Mathlib.Omega.{arith}
use lib.ListN.{length}
use borrow.Author.Tests.{le-leb, lt-leb}
use Rattle.std.specs.Prelude.{Result, Ok, Err}
use Rattle.refusal.specs.declared.Refusal.{Refusal}
use Rattle.refusal.specs.declared.Refusal.TheVariants.{ReportTooLong}
use Rattle.num_text.specs.Put.{Put}
use Rattle.num_text.proofs.PutLaws.{put_le, put_counted, put_front}
use Rattle.fault_row.specs.declared.summary.Summary.{Summary}
use Rattle.fault_row.specs.Fault.{Fault}
use Rattle.fault_lines.specs.Line.{Line}
use Rattle.fault_lines.specs.Lines.{lines_of}
use Rattle.fault_lines.specs.Listed.{Listed}
use Rattle.fault_lines.proofs.Unique.{determined}
use Rattle.fault_lines.proofs.Found.{listed}
use Rattle.report.specs.Text.{report_text}
use Rattle.report.specs.Report.{number_of, length_of, fits, Reported}

-- ---- the text was measured over some slice, and k is the position then
module _ (text d e : List ℕ) (k : ℕ) (measured : Put d 0 text e k) (report : List ℕ) where
  -- a position that stopped at 2 ^ 63 is past every slice, as the text is
  pub reported_long : length report < k → Reported text report report (Err ReportTooLong)
  unfolding fits number_of length_of
  reported_long h =
      let off : fits text report ≡ false = lt-leb (length text) (length report) (omega (arith, h, put_le text measured)) in
      record { answer = rw off; number = rw off; size = rw off; buffer = rw off }

  pub reported_fits : (report' : List ℕ) (r : ℕ) → k ≤ length report → Put report 0 text report' r → Reported text report report' (Ok k)
  unfolding fits number_of length_of
  reported_fits report' r h put =
      let long : k ≡ length text = put_counted text measured (omega (arith, h, put.room)) ∙ omega arith in
      let on : fits text report ≡ true = le-leb (length text) (length report) (omega (arith, h, long)) in
      record { answer = rw on (ap (λ (n : ℕ). Ok n) long); number = rw on; size = rw on long; buffer = rw on (put_front text put (omega (arith, h, long))) }

-- ---- the contract leaves nothing open
-- two outcomes of one call are one
pub reported_only : (text report report₁ report₂ : List ℕ) (r q : Result ℕ Refusal) → Reported text report report₁ r → Reported text report report₂ q →
    (r ≡ q) × (report₁ ≡ report₂)
reported_only text report report₁ report₂ r q a b = (a.answer ∙ sym b.answer, a.buffer ∙ sym b.buffer)

-- and the text is that of the lines that demand 3 tells, however they are found
pub listed_text : (x : Summary) (faults : List Fault) (lines : List Line) → Listed faults lines → report_text x lines ≡ report_text x (lines_of faults)
listed_text x faults lines l = ap (report_text x) (determined faults lines (lines_of faults) l (listed faults))
