-- What the functions of this crate leave on the way. A reader may pass over it.
use Rattle.std.specs.Prelude.{⊤, Bool, cond, true, false, ◌≡◌, List, ◌++◌, ℕ, ◌≤◌, ◌<◌, min, leb, length, drop, replicate, Float, Result, Ok, Err}
use Rattle.std.specs.Result.{result_and}
use Rattle.refusal.specs.declared.Refusal.{Refusal}
use Rattle.refusal.specs.declared.Refusal.TheVariants.{TooManyFaults, ReportTooLong}
use Rattle.refusal.specs.Numbers.{number, too_little_scratch}
use Rattle.math.specs.Vector.{zero}
use Rattle.file_job.specs.declared.Process.{Process}
use Rattle.file_job.specs.declared.Process.TheVariants.{CncMachining, SheetMetal, Fdm, Sla, Sls}
use Rattle.file_part.specs.Part.{Part, part_of}
use Rattle.scratch.specs.declared.regions.Regions.{Regions}
use Rattle.scratch.specs.declared.regions.Stages.{Stages}
use Rattle.scratch.specs.Refusal.{body_result_of, body_refusal_of}
use Rattle.scratch.specs.Standing.{Standing}
use Rattle.solid_ranks.specs.Kept.{Ranked}
use Rattle.fault_row.specs.declared.summary.Found.{Found}
use Rattle.fault_row.specs.Row.{row_room}
use Rattle.fault_row.specs.Flaws.{FlawsPut}
use Rattle.fault_row.specs.Summary.{no_summary}
use Rattle.report.specs.fault_text.specs.Good.{Good}
use Rattle.fault_lines.specs.Lines.{lines_of}
use Rattle.rule_machining.specs.All.{MachiningPut}
use Rattle.rule_printing.specs.Rules.{traps_hollows_of}
use Rattle.report.specs.fault_merge.specs.Work.{faults_to}
use Rattle.report.specs.report_faces.specs.Named.{named_at}
use Rattle.report.specs.report_faces.specs.Work.{Told, Kept}
use Rattle.report.specs.Text.{report_text}
use Rattle.dfm_core.specs.declared.halves.Findings.{Findings}
use Rattle.dfm_core.specs.Faults.{flaws_of, faults_of, summary_of, report_of}
use Rattle.dfm_core.specs.Answer.{is_accepted}

-- ---- what it means for the buffers
-- "1 to 10 .. change no buffer"
unfoldable pub is_early : Refusal → Bool
is_early r = leb (number r) too_little_scratch

-- whether the buffers stay as they were
unfoldable pub keeps_buffers : {A : Type 0} → Result A Refusal → Bool
keeps_buffers (Ok x) = false
keeps_buffers (Err r) = is_early r

-- "11, 12 and an accepted check leave scratch and rows all zero": from which number on the rows are zeroed
unfoldable pub wipe_from : Result ℕ Refusal → ℕ → ℕ
wipe_from answer rows = cond (keeps_buffers answer) rows 0

-- ---- what a process asks for
-- segments where a rule asks for edges or for open keys: every process has one
unfoldable pub asks_segments : Process → Bool
asks_segments CncMachining = true
asks_segments SheetMetal = true
asks_segments Fdm = true
asks_segments Sla = true
asks_segments Sls = true

pub record StagesFor (process : Process) (r : Stages) : Type 0 where
  pub segments : r.segments ≡ asks_segments process
  pub bodies : r.bodies ≡ traps_hollows_of process

pub record Asked (t : Part) (at : Regions) : Type 0 where
  pub segments : at.segments ≡ asks_segments t.job.process
  pub bodies : at.bodies ≡ traps_hollows_of t.job.process

-- ---- what is found
pub record MachinedPut (s : List ℕ) (at : Regions) (words words' : List ℕ) (reals reals' : List Float) (cells cells' : List ℕ) (numbers numbers' : List Float) (r : Found) : Type 0 where
  pub put : MachiningPut s at words words' reals reals' cells cells' numbers numbers' r.faults
  pub summary : r.summary ≡ no_summary

-- The faults stand in the rows as far as those are lent, and the scratch tells the faces of those that have many.
pub record FaultsFound (s : List ℕ) (at : Regions) (words words' : List ℕ) (reals reals' : List Float) (cells cells' : List ℕ) (numbers numbers' : List Float) (r : Found) : Type 0 where
  pub put : FlawsPut (Good (part_of s)) 0 (flaws_of (part_of s)) cells cells' numbers numbers' r.faults
  pub few : r.faults ≤ 4194304
  pub summary : r.summary ≡ summary_of (part_of s)
  pub standing : Standing s at words' reals'
  pub ranked : Ranked (part_of s) at words'
  pub told : (k : ℕ) → k < r.faults → k < row_room (length cells) (length numbers) → Told (part_of s) at words' (named_at cells' numbers' k)
  pub words_long : length words' ≡ length words
  pub reals_long : length reals' ≡ length reals

-- ---- the answer
-- 1 to 10, then 11
unfoldable pub refusal_of : List ℕ → ℕ → ℕ → ℕ → Result ⊤ Refusal
refusal_of s words reals rows = result_and (body_result_of s words reals) (cond (leb (length (faults_of (part_of s))) rows) (Ok tt) (Err TooManyFaults))

-- then 12, or the report
unfoldable pub answer_after : Result ⊤ Refusal → List ℕ → ℕ → Result ℕ Refusal
answer_after refusal s room =
    result_and refusal (cond (leb (length (report_of (part_of s))) room) (Ok (length (report_of (part_of s)))) (Err ReportTooLong))

-- ---- the first half
-- its refusal alone
unfoldable pub refusal_in : Result Findings Refusal → Result ⊤ Refusal
refusal_in (Ok f) = Ok tt
refusal_in (Err r) = Err r

-- how many faults stand as rows; none where the part is turned back
unfoldable pub faults_in : Result Findings Refusal → ℕ
faults_in (Ok f) = f.faults
faults_in (Err r) = 0

-- What the report starts from: the part stands in the scratch, its faults in cells and numbers, and their lines are those of its report.
pub record Ready (s words cells : List ℕ) (numbers : List Float) (r : Findings) : Type 0 where
  pub at : Regions
  pub asked : Asked (part_of s) at
  pub kept : Kept s words (record { at = at; faces = r.faces; faults = r.faults }) cells numbers
  pub text : report_text r.summary (lines_of (faults_to (part_of s) cells numbers r.faults)) ≡ report_of (part_of s)

pub record Finding (s words words' : List ℕ) (reals reals' : List Float) (cells cells' : List ℕ) (numbers numbers' : List Float) (lent : ℕ) (r : Result Findings Refusal) : Type 0 where
  pub refusal : refusal_in r ≡ refusal_of s (length words) (length reals) (min (row_room (length cells) (length numbers)) lent)
  pub fits : faults_in r ≤ min (row_room (length cells) (length numbers)) lent
  pub ready : (f : Findings) → r ≡ Ok f → Ready s words' cells' numbers' f
  pub untouched : (body_refusal_of s (length words) (length reals) ≡ 0 → ⊥) → (words' ≡ words) × (reals' ≡ reals)

-- ---- the second half
pub record Answered (s : List ℕ) (refusal : Result ⊤ Refusal) (report report' : List ℕ) (r : Result ℕ Refusal) : Type 0 where
  pub answer : r ≡ answer_after refusal s (length report)
  pub buffer : report' ≡ cond (is_accepted r) (report_of (part_of s) ++ drop (length (report_of (part_of s))) report) report

pub record Ended (s words words' : List ℕ) (reals reals' : List Float) (refusal : Result ⊤ Refusal) (report report' : List ℕ) (r : Result ℕ Refusal) : Type 0 where
  pub answered : Answered s refusal report report' r
  pub words_left : words' ≡ cond (keeps_buffers refusal) words (replicate (length words) 0)
  pub reals_left : reals' ≡ cond (keeps_buffers refusal) reals (replicate (length reals) zero)
