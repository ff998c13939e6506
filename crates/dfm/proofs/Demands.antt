-- What the outcome of a check says, for readers: it is the only one, its number is one of document 01's, and the report is the file's alone.
use mathlib.Core.Path.{◌≡◌, refl, sym, ap, ◌∙◌, subst}
use mathlib.Core.Bool.{Bool, true, false, cond}
use mathlib.Core.List.{List, ◌++◌}
use Prim.Native.Nat.{ℕ, ◌≤◌, ◌<◌, min}
use native.Mathlib.Omega.{arith}
use lib.Dec.{eqb, leb}
use lib.ListN.{length, drop}
use lib.Ieee.{Float}
use borrow.Author.Tests.{eqb-true, eqb-false}
use Rattle.num_float.proofs.Tests.{contrary}
use Rattle.std.specs.Prelude.{⊤, Result, Ok, Err}
use Rattle.std.specs.Result.{result_and}
use Rattle.refusal.specs.declared.Refusal.{Refusal}
use Rattle.refusal.specs.declared.Refusal.TheVariants.{TooManyFaults, ReportTooLong}
use Rattle.refusal.specs.Numbers.{too_little_scratch, report_too_long}
use Rattle.file_part.specs.Part.{part_of}
use Rattle.solid_faces.specs.Faces.{Checked}
use Rattle.file_ok.specs.Verdict.{number}
use Rattle.file_ok.proofs.RefusalLaws.{not_none}
use Rattle.scratch.specs.Refusal.{body_result_of, body_refusal_of}
use Rattle.scratch.proofs.RefusalLaws.{put_number, put_checked}
use Rattle.wall_samples.specs.Samples.{readings_of}
use Rattle.wall_samples.specs.Stored.{reading}
use Rattle.wall_error.specs.Error.{ReadingFacing, ReadingNear, least_dot, precision, kept_precision}
use Rattle.wall_error.proofs.Readings.{readings_near, readings_nearer}
use Rattle.fault_row.specs.declared.row.FaultRow.{FaultRow}
use Rattle.fault_lines.specs.Line.{Line}
use Rattle.fault_lines.specs.Lines.{lines_of}
use Rattle.fault_lines.proofs.Unique.{determined}
use Rattle.fault_lines.proofs.Found.{listed}
use Rattle.dfm_core.specs.report.specs.Text.{report_text}
use Rattle.dfm_core.specs.Faults.{faults_of, summary_of, report_of}
use Rattle.dfm_core.specs.Answer.{number_of, length_of, is_accepted, answer_of}
use Rattle.dfm_core.proofs.AnswerLaws.{refusal_most}
use Rattle.dfm.specs.Check.{Outcome}

-- ---- the answer
-- an answer by its tests, v being the refusal from 1 to 10
unfoldable answer_by_lem : Result ⊤ Refusal → Bool → Bool → ℕ → Result ℕ Refusal
answer_by_lem v few fit n = result_and v (cond few (cond fit (Ok n) (Err ReportTooLong)) (Err TooManyFaults))

by_number : (v : Result ⊤ Refusal) (few fit : Bool) (n : ℕ) → number v ≤ too_little_scratch → number_of (answer_by_lem v few fit n) ≤ report_too_long
unfolding answer_by_lem number_of number
by_number (Ok u) true true n h = omega arith
by_number (Ok u) true false n h = omega arith
by_number (Ok u) false fit n h = omega arith
by_number (Err r) few fit n h = omega (arith, h)

by_length : (v : Result ⊤ Refusal) (few fit : Bool) (n : ℕ) → is_accepted (answer_by_lem v few fit n) ≡ true → length_of (answer_by_lem v few fit n) ≡ n
unfolding answer_by_lem length_of is_accepted
by_length (Ok u) true true n e = refl
by_length (Ok u) true false n e = absurd (contrary e refl)
by_length (Ok u) false fit n e = absurd (contrary e refl)
by_length (Err r) few fit n e = absurd (contrary e refl)

by_good : (v : Result ⊤ Refusal) (few fit : Bool) (n : ℕ) → is_accepted (answer_by_lem v few fit n) ≡ true → v ≡ Ok tt
unfolding answer_by_lem is_accepted
by_good (Ok u) few fit n e = refl
by_good (Err r) few fit n e = absurd (contrary e refl)

zero_of : (r : Result ℕ Refusal) → is_accepted r ≡ true → number_of r ≡ 0
unfolding number_of is_accepted
zero_of (Ok n) e = refl
zero_of (Err k) e = absurd (contrary e refl)

of_zero : (r : Result ℕ Refusal) → number_of r ≡ 0 → is_accepted r ≡ true
unfolding number_of is_accepted
of_zero (Ok n) e = refl
of_zero (Err k) e = absurd (not_none k e)

-- the tests of `answer_of`
answer_by : (s : List ℕ) (words reals rows room : ℕ) → answer_of s words reals rows room
    ≡ answer_by_lem (body_result_of s words reals) (leb (length (faults_of (part_of s))) rows) (leb (length (report_of (part_of s))) room) (length (report_of (part_of s)))
unfolding answer_of answer_by_lem
answer_by s words reals rows room = refl

module _ {s words words' : List ℕ} {reals reals' : List Float} {rows rows' : List FaultRow} {report report' : List ℕ} {r : Result ℕ Refusal}
    (o : Outcome s words words' reals reals' rows rows' report report' r) where
  -- the answer by its tests
  is : r ≡ answer_by_lem (body_result_of s (length words) (length reals)) (leb (length (faults_of (part_of s))) (min 2048 (length rows)))
      (leb (length (report_of (part_of s))) (length report)) (length (report_of (part_of s)))
  is = o.answer ∙ answer_by s (length words) (length reals) (min 2048 (length rows)) (length report)

  -- the numbers end at 12, "report longer than its buffer"
  pub answer_number : number_of r ≤ report_too_long
  unfolding body_refusal_of
  answer_number = subst (λ (a : Result ℕ Refusal). number_of a ≤ report_too_long) (sym is) (by_number _ _ _ _ (refusal_most s (length words) (length reals)))

  -- 0 is none
  pub accepted_zero : is_accepted r ≡ true → number_of r ≡ 0
  accepted_zero ok = zero_of r ok

  pub zero_accepted : number_of r ≡ 0 → is_accepted r ≡ true
  zero_accepted e = of_zero r e

  -- ---- the report: by the file alone
  pub report_alone : is_accepted r ≡ true → report' ≡ report_of (part_of s) ++ drop (length (report_of (part_of s))) report
  unfolding report_of
  report_alone ok =
      let p = o.printed ok in
      p.buffer
      ∙ ap (λ (ls : List Line). report_text (summary_of (part_of s)) ls ++ drop (length (report_text (summary_of (part_of s)) ls)) report)
      (determined (faults_of (part_of s)) p.lines (lines_of (faults_of (part_of s))) p.listed (listed (faults_of (part_of s))))

  pub report_length : is_accepted r ≡ true → length_of r ≡ length (report_of (part_of s))
  report_length ok = ap length_of is ∙ by_length _ _ _ _ (ap is_accepted (sym is) ∙ ok)

  -- ---- the readings that an accepted check keeps: item 11 of document 02
  pub accepted_checked : is_accepted r ≡ true → Checked s
  accepted_checked ok =
      put_checked s (length words) (length reals) (put_number s (length words) (length reals) (by_good _ _ _ _ (ap is_accepted (sym is) ∙ ok)))

  -- "Where normal and direction have an exact dot product of at least 0.02 in size, the reading differs from the exact distance along the ray to that
  -- plane, plus the exact f64 1e-6, by less than 1e-7 mm"
  pub reading_near : is_accepted r ≡ true → (k : ℕ) → k < length (readings_of (part_of s)) →
      ReadingFacing least_dot (part_of s) (reading (readings_of (part_of s)) k) → ReadingNear precision (part_of s) (reading (readings_of (part_of s)) k)
  reading_near ok = readings_near s (accepted_checked ok)

  -- and each by less than 1e-9 mm, with no condition
  pub reading_nearer : is_accepted r ≡ true → (k : ℕ) → k < length (readings_of (part_of s)) →
      ReadingNear kept_precision (part_of s) (reading (readings_of (part_of s)) k)
  reading_nearer ok = readings_nearer s (accepted_checked ok)

-- ---- the outcome: the only one of a call
module _ {s words words1 words2 : List ℕ} {reals reals1 reals2 : List Float} {rows rows1 rows2 : List FaultRow}
    {report report1 report2 : List ℕ} {r1 r2 : Result ℕ Refusal} (a : Outcome s words words1 reals reals1 rows rows1 report report1 r1)
    (b : Outcome s words words2 reals reals2 rows rows2 report report2 r2) where
  one_answer : r1 ≡ r2
  one_answer = a.answer ∙ sym b.answer

  one_report : report1 ≡ report2
  one_report = go (is_accepted r1) refl
    where
      go : (ok : Bool) → is_accepted r1 ≡ ok → report1 ≡ report2
      go true e = report_alone a e ∙ sym (report_alone b (ap is_accepted (sym one_answer) ∙ e))
      go false e = a.unreported e ∙ sym (b.unreported (ap is_accepted (sym one_answer) ∙ e))

  one_work : (words1 ≡ words2) × (reals1 ≡ reals2) × (rows1 ≡ rows2)
  one_work = go (eqb q 0) refl
    where
      q : ℕ
      q = body_refusal_of s (length words) (length reals)

      go : (good : Bool) → eqb q 0 ≡ good → (words1 ≡ words2) × (reals1 ≡ reals2) × (rows1 ≡ rows2)
      go true e =
          let x = a.cleared (eqb-true q 0 e) in
          let y = b.cleared (eqb-true q 0 e) in
          (x.words_zero ∙ sym y.words_zero, x.reals_zero ∙ sym y.reals_zero, x.rows_zero ∙ sym y.rows_zero)
      go false e =
          let x = a.untouched (eqb-false q 0 e) in
          let y = b.untouched (eqb-false q 0 e) in
          (x.words_same ∙ sym y.words_same, x.reals_same ∙ sym y.reals_same, x.rows_same ∙ sym y.rows_same)

  pub outcome_only : (r1 ≡ r2) × (report1 ≡ report2) × (words1 ≡ words2) × (reals1 ≡ reals2) × (rows1 ≡ rows2)
  outcome_only = (one_answer, one_report, one_work.0, one_work.1, one_work.2)
