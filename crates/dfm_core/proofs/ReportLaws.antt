-- The two halves of the check, return by return: what is found of a part, and its answer.
use mathlib.Core.Path.{◌≡◌, refl, sym, ap, ap₂, ◌∙◌, subst}
use mathlib.Core.Bool.{Bool, true, false, cond}
use mathlib.Core.List.{List, [], ◌∷◌, ◌++◌}
use mathlib.Core.Logic.{◌⊎◌, inl, inr}
use Prim.Native.Nat.{ℕ, zero, suc, ◌≤◌, ◌<◌, min}
use native.Mathlib.Omega.{arith}
use lib.Dec.{eqb, leb}
use lib.ListN.{length, drop, replicate}
use lib.Ieee.{Float}
use borrow.Author.Tests.{eq-eqb, ne_eqb, le-leb, lt-leb}
use Rattle.std.specs.Prelude.{⊤, Result, Ok, Err}
use Rattle.refusal.specs.declared.Refusal.{Refusal}
use Rattle.refusal.specs.declared.Refusal.TheVariants.{TooManyFaults, ReportTooLong}
use Rattle.math.specs.Vector.{zero as nought}
use Rattle.file_part.specs.Part.{Part, part_of}
use Rattle.solid_faces.specs.Faces.{faces_of}
use Rattle.scratch.specs.declared.regions.Regions.{Regions}
use Rattle.scratch.specs.Work.{regions_of}
use Rattle.scratch.specs.Refusal.{body_result_of, body_refusal_of}
use Rattle.scratch.proofs.RefusalLaws.{number_put}
use Rattle.scratch.specs.Standing.{Placed}
use Rattle.scratch.proofs.RegionLaws.{only_regions}
use Rattle.fault_row.specs.declared.row.FaultRow.{FaultRow}
use Rattle.fault_row.specs.declared.summary.Summary.{Summary}
use Rattle.fault_row.specs.declared.summary.Found.{Found}
use Rattle.fault_row.specs.Fault.{Fault}
use Rattle.fault_row.specs.Row.{row_at_of, row_room}
use Rattle.fault_row.specs.Flaw.{row_of, flaw_of}
use Rattle.fault_row.specs.Summary.{no_summary}
use Rattle.fault_lines.specs.Lines.{lines_of}
use Rattle.report.specs.fault_text.specs.Told.{fault_of}
use Rattle.report.specs.fault_text.specs.Good.{Good}
use Rattle.report.specs.fault_text.proofs.ToldLaws.{told_length}
use Rattle.report.specs.fault_merge.specs.Work.{faults_to}
use Rattle.report.specs.fault_merge.proofs.RowLaws.{rows_put, rows_good}
use Rattle.report.specs.report_faces.specs.Named.{named_of, named_at}
use Rattle.report.specs.report_faces.specs.Work.{Told, Kept}
use Rattle.report.specs.Text.{report_text}
use Rattle.report.specs.Report.{fits, Reported}
use Rattle.dfm_core.specs.declared.halves.Findings.{Findings}
use Rattle.dfm_core.specs.Faults.{flaws_of, faults_of, report_of}
use Rattle.dfm_core.specs.Answer.{is_accepted}
use Rattle.dfm_core.specs.Work.{keeps_buffers, Asked, FaultsFound, refusal_of, answer_after, refusal_in, faults_in, Ready, Finding, Answered, Ended}
use Rattle.dfm_core.proofs.AnswerLaws.{after_keeps}

-- a test that is known
pub by_true : {X : Type 0} (b : Bool) (x y : X) → b ≡ true → cond b x y ≡ x
by_true b x y e = rw e refl

pub by_false : {X : Type 0} (b : Bool) (x y : X) → b ≡ false → cond b x y ≡ y
by_false b x y e = rw e refl

-- ---- the first half
module _ (s words : List ℕ) (reals : List Float) (cells : List ℕ) (numbers : List Float) (lent : ℕ) where
  -- 1 to 10
  pub finding_early : (q : Refusal) (r : Result Findings Refusal) → body_result_of s (length words) (length reals) ≡ Err q → r ≡ Err q →
      Finding s words words reals reals cells cells numbers numbers lent r
  unfolding refusal_of refusal_in faults_in
  finding_early q r e is =
      subst (Finding s words words reals reals cells cells numbers numbers lent) (sym is)
      (record {
        refusal = rw e refl;
        fits = omega arith;
        ready = λ f z. (cc);
        untouched = λ _. (refl, refl);
      })

-- where the faults are found
module _ (s : List ℕ) (at : Regions) (words words1 words' : List ℕ) (reals reals1 reals' : List Float) (cells cells' : List ℕ) (numbers numbers' : List Float)
    (x : Found) (h : FaultsFound s at words1 words' reals1 reals' cells cells' numbers numbers' x) (z : body_refusal_of s (length words) (length reals) ≡ 0)
    (rows lent : ℕ) (is-rows : rows ≡ row_room (length cells') (length numbers')) where
  abbrev t : Part
  t = part_of s

  -- the rows keep their lengths, and so as many are lent as before
  rows_same : rows ≡ row_room (length cells) (length numbers)
  rows_same = is-rows ∙ ap₂ row_room h.put.cells_kept.long h.put.numbers_kept.long

  fault_count : x.faults ≡ length (faults_of t)
  unfolding faults_of
  fault_count = omega (arith, h.put.count, told_length t (flaws_of t))

  -- as no refusal from 1 to 10 is met
  refusal_by : (few : Bool) → leb (length (faults_of t)) (min (row_room (length cells) (length numbers)) lent) ≡ few →
      cond few (Ok tt) (Err TooManyFaults) ≡ refusal_of s (length words) (length reals) (min (row_room (length cells) (length numbers)) lent)
  unfolding refusal_of
  refusal_by few e = rw (number_put s (length words) (length reals) z, e) refl

  -- 11
  pub finding_many : (m : ℕ) → m ≡ min rows lent → m < x.faults → Finding s words words' reals reals' cells cells' numbers numbers' lent (Err TooManyFaults)
  unfolding refusal_in faults_in
  finding_many m is many =
      record {
        refusal = refusal_by false (lt-leb (length (faults_of t)) (min (row_room (length cells) (length numbers)) lent) (omega (arith, is, many, rows_same, fault_count)));
        fits = omega arith;
        ready = λ f e. (cc);
        untouched = λ other. absurd (other z);
      }

  -- the report's text, of what was found
  found_text : x.faults ≤ rows → report_text x.summary (lines_of (faults_to (part_of s) cells' numbers' x.faults)) ≡ report_of (part_of s)
  unfolding report_of faults_of
  found_text room =
      ap₂ (λ (y : Summary) (fs : List Fault). report_text y (lines_of fs)) h.summary
      (rows_put t (flaws_of t) cells cells' numbers numbers' x.faults h.put (omega (arith, room, rows_same)))

  -- none of 1 to 11
  pub finding_good : (m : ℕ) → m ≡ min rows lent → x.faults ≤ m → (n : ℕ) → n ≡ faces_of (part_of s) → Asked (part_of s) at →
      Finding s words words' reals reals' cells cells' numbers numbers' lent (Ok (record { faults = x.faults; faces = n; summary = x.summary }))
  unfolding refusal_in faults_in
  finding_good m least enough n is asks =
      let inside : x.faults ≤ min (row_room (length cells) (length numbers)) lent = omega (arith, least, enough, rows_same) in
      let room : x.faults ≤ rows = omega (arith, least, enough) in
      let found : Findings = record { faults = x.faults; faces = n; summary = x.summary } in
      let ready : Ready s words' cells' numbers' found = record {
        at = at;
        asked = asks;
        kept =
            record {
              placed = h.standing.placed;
              room = h.standing.words_room;
              body = h.standing.the_words;
              ranked = h.ranked;
              faces = is;
              rows = rows_good s (flaws_of t) cells cells' numbers numbers' x.faults h.standing.placed.checked h.put (omega (arith, room, rows_same));
              told = λ k low. h.told k low (omega (arith, room, rows_same, low));
            };
        text = found_text room;
      } in
      record {
        refusal = refusal_by true (le-leb (length (faults_of t)) (min (row_room (length cells) (length numbers)) lent) (omega (arith, inside, fault_count)));
        fits = inside;
        ready = λ f e. subst (Ready s words' cells' numbers') (same found f e) ready;
        untouched = λ other. absurd (other z);
      }
    where
      same : (f g : Findings) → ◌≡◌ {A = Result Findings Refusal} (Ok f) (Ok g) → f ≡ g
      same f g e = cc

-- ---- between the halves
-- cells and numbers that hold the same rows hold the same faults
faults_same : (t : Part) (cells cells' : List ℕ) (numbers numbers' : List Float) (n : ℕ) → ((k : ℕ) → k < n → row_at_of cells' numbers' k ≡ row_at_of cells numbers k) →
    faults_to t cells' numbers' n ≡ faults_to t cells numbers n
unfolding faults_to
faults_same t cells cells' numbers numbers' zero same = refl
faults_same t cells cells' numbers numbers' (suc n) same =
    ap₂ (λ (fs : List Fault) (row : FaultRow). fs ++ (fault_of t row ∷ [])) (faults_same t cells cells' numbers numbers' n (λ k low. same k (omega (arith, low)))) (same n (omega arith))

pub ready_same : (s words cells cells' : List ℕ) (numbers numbers' : List Float) (r : Findings) → length cells' ≡ length cells → length numbers' ≡ length numbers →
    ((k : ℕ) → k < r.faults → row_at_of cells' numbers' k ≡ row_at_of cells numbers k) → Ready s words cells numbers r → Ready s words cells' numbers' r
unfolding named_at
ready_same s words cells cells' numbers numbers' r lc ln same h =
    record {
      at = h.at;
      asked = h.asked;
      kept =
          record {
            placed = k.placed;
            room = k.room;
            body = k.body;
            ranked = k.ranked;
            faces = k.faces;
            rows =
                record {
                  checked = k.rows.checked;
                  few = k.rows.few;
                  cells_long = omega (arith, k.rows.cells_long, lc);
                  numbers_long = omega (arith, k.rows.numbers_long, ln);
                  kept = λ j low. same j low ∙ k.rows.kept j low ∙ ap (λ (row : FaultRow). row_of (flaw_of row)) (sym (same j low));
                  good = λ j low. subst (λ (row : FaultRow). Good (part_of s) (flaw_of row)) (sym (same j low)) (k.rows.good j low);
                };
            told = λ j low. subst (λ (row : FaultRow). Told (part_of s) h.at words (named_of (flaw_of row))) (sym (same j low)) (k.told j low);
          };
      text = ap (λ (fs : List Fault). report_text r.summary (lines_of fs)) (faults_same (part_of s) cells cells' numbers numbers' r.faults same) ∙ h.text;
    }
  where
    k : Kept s words (record { at = h.at; faces = r.faces; faults = r.faults }) cells numbers
    k = h.kept

-- ---- the second half
-- the regions of a part follow from its file
same_regions : (s : List ℕ) (a b : Regions) → Placed s a → Placed s b → Asked (part_of s) a → Asked (part_of s) b → a ≡ b
same_regions s a b pa pb ea eb =
    only_regions a pa.laid
    ∙ (λ i. regions_of ((pa.polygons ∙ sym pb.polygons) i) ((pa.vertices ∙ sym pb.vertices) i) ((ea.segments ∙ sym eb.segments) i) ((ea.bodies ∙ sym eb.bodies) i))
    ∙ sym (only_regions b pb.laid)

-- what the report starts from, with the regions found again
pub ready_kept : (s words cells : List ℕ) (numbers : List Float) (r : Findings) (at : Regions) → Ready s words cells numbers r → Placed s at → Asked (part_of s) at →
    Kept s words (record { at = at; faces = r.faces; faults = r.faults }) cells numbers
ready_kept s words cells numbers r at h placed asks =
    subst (λ (a : Regions). Kept s words (record { at = a; faces = r.faces; faults = r.faults }) cells numbers)
    (same_regions s h.at at h.kept.placed placed h.asked asks) h.kept

-- a part that is turned back
pub answered_refused : (s report : List ℕ) (x : Result Findings Refusal) (k : Refusal) (r : Result ℕ Refusal) → x ≡ Err k → r ≡ Err k → Answered s (refusal_in x) report report r
unfolding answer_after refusal_in is_accepted
answered_refused s report x k r e is = record { answer = rw (e, is) refl; buffer = rw is refl }

-- the report, or 12
pub answered_report : (s words cells : List ℕ) (numbers : List Float) (x : Result Findings Refusal) (f : Findings) (report report' : List ℕ) (r : Result ℕ Refusal) →
    Ready s words cells numbers f → x ≡ Ok f → Reported (report_text f.summary (lines_of (faults_to (part_of s) cells numbers f.faults))) report report' r →
    Answered s (refusal_in x) report report' r
unfolding answer_after refusal_in fits is_accepted
answered_report s words cells numbers x f report report' r ready good written =
    record {
      answer = rw good done.answer;
      buffer = done.buffer ∙ ap (λ (b : Bool). cond b (report_of (part_of s) ++ drop (length (report_of (part_of s))) report) report) (fit_accepted fit (length (report_of (part_of s))) ∙ ap is_accepted (sym done.answer));
    }
  where
    fit : Bool
    fit = leb (length (report_of (part_of s))) (length report)

    done : Reported (report_of (part_of s)) report report' r
    done = subst (λ (l : List ℕ). Reported l report report' r) ready.text written

    fit_accepted : (b : Bool) (n : ℕ) → b ≡ is_accepted (cond b (Ok n) (Err ReportTooLong))
    fit_accepted true n = refl
    fit_accepted false n = refl

-- the scratch: as it was, or all zero
module _ (s words : List ℕ) (reals : List Float) (refusal : Result ⊤ Refusal) (report report' : List ℕ) (r : Result ℕ Refusal) (h : Answered s refusal report report' r) where
  kept : (b : Bool) → keeps_buffers r ≡ b → keeps_buffers refusal ≡ b
  kept b e = sym (after_keeps refusal s (length report)) ∙ ap (λ (a : Result ℕ Refusal). keeps_buffers a) (sym h.answer) ∙ e

  pub ended_early : keeps_buffers r ≡ true → Ended s words words reals reals refusal report report' r
  ended_early early = record { answered = h; words_left = sym (by_true _ _ _ (kept true early)); reals_left = sym (by_true _ _ _ (kept true early)) }

  pub ended_late : (words' : List ℕ) (reals' : List Float) → keeps_buffers r ≡ false → words' ≡ replicate (length words) 0 → reals' ≡ replicate (length reals) nought →
      Ended s words words' reals reals' refusal report report' r
  ended_late words' reals' late ew er =
      record { answered = h; words_left = ew ∙ sym (by_false _ _ _ (kept false late)); reals_left = er ∙ sym (by_false _ _ _ (kept false late)) }
