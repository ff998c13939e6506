-- From what each step of a check leaves to its outcome.
use mathlib.Core.Path.{◌≡◌, refl, sym, ap, ◌∙◌}
use mathlib.Core.Bool.{true, false}
use mathlib.Core.List.{List}
use Prim.Native.Nat.{ℕ, ◌≤◌, ◌<◌, min}
use native.Mathlib.Omega.{arith}
use lib.ListN.{length, replicate}
use lib.Ieee.{Float}
use Rattle.std.specs.Prelude.{⊤, Result, Ok, Err}
use Rattle.refusal.specs.declared.Refusal.{Refusal}
use Rattle.math.specs.Vector.{zero}
use Rattle.file_part.specs.Part.{part_of}
use Rattle.scratch.specs.Refusal.{body_refusal_of}
use Rattle.fault_row.specs.declared.row.FaultRow.{FaultRow}
use Rattle.fault_row.specs.Row.{row_at_of, row_room}
use Rattle.fault_rows.specs.Rows.{zero_row_of, row_in, painted, wiped, Taken}
use Rattle.fault_rows.proofs.RowsLaws.{painted_none, painted_length, painted_at, wiped_none, wiped_all}
use Rattle.fault_lines.specs.Lines.{lines_of}
use Rattle.fault_lines.proofs.Found.{listed}
use Rattle.dfm_core.specs.declared.halves.Findings.{Findings}
use Rattle.dfm_core.specs.Faults.{faults_of, report_of}
use Rattle.dfm_core.specs.Answer.{is_accepted, answer_of}
use Rattle.dfm_core.specs.Work.{keeps_buffers, wipe_from, refusal_of, answer_after, refusal_in, faults_in, Ready, Finding, Ended}
use Rattle.dfm_core.proofs.ReportLaws.{by_true, by_false, ready_same}
use Rattle.dfm_core.proofs.AnswerLaws.{answer_after_lem, early_refused, early_answered, wipe_refused, wipe_answered}
use Rattle.dfm.specs.Check.{Outcome}

-- ---- the rows that the cells and numbers hold
-- 12,288 cells and 6,144 numbers hold every row that counts
pub rows_many : (cells numbers lent : ℕ) → cells ≡ 12288 → numbers ≡ 6144 → min (row_room cells numbers) lent ≡ min 2048 lent
unfolding row_room
rows_many cells numbers lent ec en = rw (ec, en) refl

-- 384 cells and 192 numbers do so where at most 64 are lent
pub rows_few : (cells numbers lent : ℕ) → cells ≡ 384 → numbers ≡ 192 → lent ≤ 64 → min (row_room cells numbers) lent ≡ min 2048 lent
unfolding row_room
rows_few cells numbers lent ec en few = rw (ec, en) (omega (arith, few))

-- the faults that were found fit into the rows lent, and into the cells and numbers as they are now
pub faults_fit : (n m lent lent' cells cells' numbers numbers' : ℕ) → n ≡ m → m ≤ min (row_room cells numbers) lent → lent' ≡ lent → cells' ≡ cells → numbers' ≡ numbers →
    (n ≤ lent') × (n ≤ row_room cells' numbers')
faults_fit n m lent lent' cells cells' numbers numbers' e h el ec en = (omega (arith, e, h, el), rw (ec, en) (omega (arith, e, h)))

-- rows that were put and taken back are those that were found, and the report starts from them
pub ready_taken : (s words : List ℕ) (cells cells' : List ℕ) (numbers numbers' : List Float) (rows rows1 : List FaultRow) (f : Findings) (n : ℕ) → n ≡ f.faults → n ≤ length rows →
    rows1 ≡ painted (row_at_of cells numbers) n rows → Taken rows1 n cells cells' numbers numbers' → Ready s words cells numbers f → Ready s words cells' numbers' f
ready_taken s words cells cells' numbers numbers' rows rows1 f n e fits put taken ready =
    ready_same s words cells cells' numbers numbers' f taken.cells_kept.long taken.numbers_kept.long
    (λ k low.
    let below : k < n = omega (arith, low, e) in
    taken.each k below ∙ ap (λ (l : List FaultRow). row_in l k) put ∙ painted_at (row_at_of cells numbers) n rows k zero_row_of fits below)
    ready

-- the same, where the count is that of what was found
pub found_taken : (s words : List ℕ) (cells cells' : List ℕ) (numbers numbers' : List Float) (rows rows1 : List FaultRow) (x : Result Findings Refusal) (n : ℕ) → n ≡ faults_in x → n ≤ length rows →
    rows1 ≡ painted (row_at_of cells numbers) n rows → Taken rows1 n cells cells' numbers numbers' →
    ((f : Findings) → x ≡ Ok f → Ready s words cells numbers f) → (f : Findings) → x ≡ Ok f → Ready s words cells' numbers' f
unfolding faults_in
found_taken s words cells cells' numbers numbers' rows rows1 x n e fits put taken ready f is =
    ready_taken s words cells cells' numbers numbers' rows rows1 f n (e ∙ ap faults_in is) fits put taken (ready f is)

-- no fault stands where the buffers stay as they were
none_kept : (x : Result Findings Refusal) → keeps_buffers (refusal_in x) ≡ true → faults_in x ≡ 0
unfolding keeps_buffers refusal_in faults_in
none_kept (Ok f) h = (cc)
none_kept (Err r) h = refl

-- ---- the steps of a check
pub record Steps (s words words1 words' : List ℕ) (reals reals1 reals' : List Float) (cells cells1 : List ℕ) (numbers numbers1 : List Float)
    (rows rows1 rows' : List FaultRow) (report report' : List ℕ) (f : Result Findings Refusal) (r : Result ℕ Refusal) : Type 0 where
  pub finding : Finding s words words1 reals reals1 cells cells1 numbers numbers1 (length rows) f
  pub room : min (row_room (length cells) (length numbers)) (length rows) ≡ min 2048 (length rows)
  pub words_long : length words1 ≡ length words
  pub reals_long : length reals1 ≡ length reals
  pub put : rows1 ≡ painted (row_at_of cells1 numbers1) (faults_in f) rows
  pub ended : Ended s words1 words' reals1 reals' (refusal_in f) report report' r
  pub wipes : rows' ≡ wiped (wipe_from r (length rows)) rows1

module _ (s words words1 words' : List ℕ) (reals reals1 reals' : List Float) (cells cells1 : List ℕ) (numbers numbers1 : List Float)
    (rows rows1 rows' : List FaultRow) (report report' : List ℕ) (f : Result Findings Refusal) (r : Result ℕ Refusal)
    (h : Steps s words words1 words' reals reals1 reals' cells cells1 numbers numbers1 rows rows1 rows' report report' f r) where
  abbrev q : ℕ
  q = body_refusal_of s (length words) (length reals)

  abbrev lent : ℕ
  lent = min 2048 (length rows)

  refusal_is : refusal_in f ≡ refusal_of s (length words) (length reals) lent
  refusal_is = h.finding.refusal ∙ ap (refusal_of s (length words) (length reals)) h.room

  answer_is : r ≡ answer_of s (length words) (length reals) lent (length report)
  answer_is =
      h.ended.answered.answer ∙ ap (λ (k : Result ⊤ Refusal). answer_after k s (length report)) refusal_is
      ∙ sym (answer_after_lem s (length words) (length reals) lent (length report))

  is_early_lem : (q ≡ 0 → ⊥) → keeps_buffers (refusal_in f) ≡ true
  is_early_lem other = ap (λ (k : Result ⊤ Refusal). keeps_buffers k) refusal_is ∙ early_refused s (length words) (length reals) lent other

  is_late : q ≡ 0 → keeps_buffers (refusal_in f) ≡ false
  is_late z = ap (λ (k : Result ⊤ Refusal). keeps_buffers k) refusal_is ∙ early_answered s (length words) (length reals) lent z

  -- 1 to 10 have put no row
  same_rows : (q ≡ 0 → ⊥) → rows1 ≡ rows
  same_rows other =
      h.put ∙ ap (λ (n : ℕ). painted (row_at_of cells1 numbers1) n rows) (none_kept f (is_early_lem other)) ∙ painted_none (row_at_of cells1 numbers1) rows

  long_rows : length rows1 ≡ length rows
  long_rows = ap length h.put ∙ painted_length (row_at_of cells1 numbers1) (faults_in f) rows

  rows_kept : (q ≡ 0 → ⊥) → rows' ≡ rows
  rows_kept other =
      h.wipes ∙ ap (λ (a : Result ℕ Refusal). wiped (wipe_from a (length rows)) rows1) answer_is
      ∙ ap (λ (n : ℕ). wiped n rows1) (wipe_refused s (length words) (length reals) lent (length report) (length rows) other) ∙ ap (wiped (length rows)) (same_rows other) ∙ wiped_none rows

  rows_cleared : q ≡ 0 → rows' ≡ replicate (length rows) zero_row_of
  rows_cleared z =
      h.wipes ∙ ap (λ (a : Result ℕ Refusal). wiped (wipe_from a (length rows)) rows1) answer_is
      ∙ ap (λ (n : ℕ). wiped n rows1) (wipe_answered s (length words) (length reals) lent (length report) (length rows) z) ∙ wiped_all rows1 ∙ ap (λ (n : ℕ). replicate n zero_row_of) long_rows

  pub outcome : Outcome s words words' reals reals' rows rows' report report' r
  unfolding report_of
  outcome =
      record {
        answer = answer_is;
        untouched = λ other.
            record {
              words_same = h.ended.words_left ∙ by_true _ _ _ (is_early_lem other) ∙ (h.finding.untouched other).0;
              reals_same = h.ended.reals_left ∙ by_true _ _ _ (is_early_lem other) ∙ (h.finding.untouched other).1;
              rows_same = rows_kept other;
            };
        cleared = λ z.
            record {
              words_zero = h.ended.words_left ∙ by_false _ _ _ (is_late z) ∙ ap (λ (n : ℕ). replicate n 0) h.words_long;
              reals_zero = h.ended.reals_left ∙ by_false _ _ _ (is_late z) ∙ ap (λ (n : ℕ). replicate n zero) h.reals_long;
              rows_zero = rows_cleared z;
            };
        unreported = λ no. h.ended.answered.buffer ∙ by_false (is_accepted r) _ _ no;
        printed = λ yes.
            record {
              lines = lines_of (faults_of (part_of s));
              listed = listed (faults_of (part_of s));
              buffer = h.ended.answered.buffer ∙ by_true (is_accepted r) _ _ yes;
            };
      }
