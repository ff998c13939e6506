-- The answer by its tests, and what it means for the buffers.
use mathlib.Core.Path.{◌≡◌, refl, sym, ap, ◌∙◌}
use mathlib.Core.Bool.{Bool, true, false, cond}
use mathlib.Core.List.{List}
use Prim.Native.Nat.{ℕ, ◌≤◌}
use native.Mathlib.Omega.{arith}
use lib.Dec.{leb}
use lib.ListN.{length}
use borrow.Author.Tests.{le-leb}
use Rattle.std.specs.Prelude.{⊤, Result, Ok, Err}
use Rattle.std.specs.Result.{result_and}
use Rattle.refusal.specs.declared.Refusal.{Refusal}
use Rattle.refusal.specs.declared.Refusal.TheVariants.{TooShort, WrongEdition, TooLarge, WrongLength, BadJob, BadVertex, BadPolygon, FlatPolygon, TooManyFaces, TooLittleScratch, TooManyFaults, ReportTooLong}
use Rattle.refusal.specs.Numbers as refusal
use Rattle.refusal.specs.Numbers.{too_many_faces_of, too_little_scratch}
use Rattle.file_part.specs.Part.{part_of}
use Rattle.file_ok.specs.Verdict.{number, content_verdict, verdict_of}
use Rattle.solid_faces.specs.Faces.{body_verdict}
use Rattle.scratch.specs.Refusal.{body_result_of, body_refusal_of}
use Rattle.scratch.proofs.RefusalLaws.{number_put}
use Rattle.dfm_core.specs.Faults.{faults_of, report_of}
use Rattle.dfm_core.specs.Answer.{answer_of}
use Rattle.dfm_core.specs.Work.{is_early, keeps_buffers, wipe_from, refusal_of, answer_after}

-- ---- 1 to 10 end at 10
verdict_by : (a b c d j v p : Bool) → number {A = ⊤} (cond a (Err TooShort) (cond b (Err WrongEdition) (cond c (Err TooLarge) (cond d (Err WrongLength)
    (cond j (Err BadJob) (cond v (Err BadVertex) (cond p (Err BadPolygon) (Ok tt)))))))) ≤ too_many_faces_of
unfolding number
verdict_by true b c d j v p = omega arith
verdict_by false true c d j v p = omega arith
verdict_by false false true d j v p = omega arith
verdict_by false false false true j v p = omega arith
verdict_by false false false false true v p = omega arith
verdict_by false false false false false true p = omega arith
verdict_by false false false false false false true = omega arith
verdict_by false false false false false false false = omega arith

verdict_most : (s : List ℕ) → number (verdict_of s) ≤ too_many_faces_of
unfolding verdict_of content_verdict
verdict_most s = verdict_by _ _ _ _ _ _ _

body_by : (v : Result ⊤ Refusal) (flat many : Bool) → number v ≤ too_many_faces_of →
    number (result_and {U = ⊤} v (cond flat (Err FlatPolygon) (cond many (Err TooManyFaces) (Ok tt)))) ≤ too_many_faces_of
unfolding number
body_by (Ok u) true many h = omega arith
body_by (Ok u) false true h = omega arith
body_by (Ok u) false false h = omega arith
body_by (Err r) flat many h = h

body_most : (s : List ℕ) → number (body_verdict s) ≤ too_many_faces_of
unfolding body_verdict
body_most s = body_by (verdict_of s) _ _ (verdict_most s)

little_by : (v : Result ⊤ Refusal) (little : Bool) → number v ≤ too_many_faces_of → number (result_and {U = ⊤} v (cond little (Err TooLittleScratch) (Ok tt))) ≤ too_little_scratch
unfolding number
little_by (Ok u) true h = omega arith
little_by (Ok u) false h = omega arith
little_by (Err r) little h = omega (arith, h)

pub refusal_most : (s : List ℕ) (words reals : ℕ) → body_refusal_of s words reals ≤ too_little_scratch
unfolding body_refusal_of body_result_of
refusal_most s words reals = little_by (body_verdict s) _ (body_most s)

-- ---- the answer, from the refusal of the first half
pub answer_after_lem : (s : List ℕ) (words reals rows room : ℕ) → answer_of s words reals rows room ≡ answer_after (refusal_of s words reals rows) s room
unfolding answer_of answer_after refusal_of
answer_after_lem s words reals rows room = go (body_result_of s words reals) (leb (length (faults_of (part_of s))) rows)
  where
    go : (v : Result ⊤ Refusal) (few : Bool) →
        result_and v (cond few (cond (leb (length (report_of (part_of s))) room) (Ok (length (report_of (part_of s)))) (Err ReportTooLong)) (Err TooManyFaults))
        ≡ result_and (result_and {U = ⊤} v (cond few (Ok tt) (Err TooManyFaults))) (cond (leb (length (report_of (part_of s))) room) (Ok (length (report_of (part_of s)))) (Err ReportTooLong))
    go (Ok u) true = refl
    go (Ok u) false = refl
    go (Err r) few = refl

-- ---- which refusals change no buffer
-- one that is met by the body of a part
early_by : (x : Result ⊤ Refusal) → (number x ≡ 0 → ⊥) → number x ≤ too_little_scratch → (A : Type 0) (y : Result A Refusal) → keeps_buffers (result_and x y) ≡ true
unfolding number keeps_buffers is_early
early_by (Ok u) some low A y = absurd (some refl)
early_by (Err r) some low A y = le-leb (refusal.number r) too_little_scratch low

module _ (s : List ℕ) (words reals rows : ℕ) where
  -- 1 to 10
  pub early_refused : (body_refusal_of s words reals ≡ 0 → ⊥) → keeps_buffers (refusal_of s words reals rows) ≡ true
  unfolding refusal_of body_refusal_of
  early_refused other = early_by (body_result_of s words reals) other (refusal_most s words reals) ⊤ _

  -- 11, 12 and a report
  pub early_answered : body_refusal_of s words reals ≡ 0 → keeps_buffers (refusal_of s words reals rows) ≡ false
  unfolding refusal_of keeps_buffers is_early
  early_answered z = rw (number_put s words reals z) (go (leb (length (faults_of (part_of s))) rows))
    where
      go : (few : Bool) → keeps_buffers {A = ⊤} (cond few (Ok tt) (Err TooManyFaults)) ≡ false
      go true = refl
      go false = refl

  -- from which number on the rows are zeroed
  pub wipe_refused : (room n : ℕ) → (body_refusal_of s words reals ≡ 0 → ⊥) → wipe_from (answer_of s words reals rows room) n ≡ n
  unfolding answer_of wipe_from body_refusal_of
  wipe_refused room n other = rw (early_by (body_result_of s words reals) other (refusal_most s words reals) ℕ
      (cond (leb (length (faults_of (part_of s))) rows) (cond (leb (length (report_of (part_of s))) room) (Ok (length (report_of (part_of s)))) (Err ReportTooLong)) (Err TooManyFaults))) refl

  pub wipe_answered : (room n : ℕ) → body_refusal_of s words reals ≡ 0 → wipe_from (answer_of s words reals rows room) n ≡ 0
  unfolding answer_of wipe_from keeps_buffers is_early
  wipe_answered room n z = rw (number_put s words reals z) (go (leb (length (faults_of (part_of s))) rows) (leb (length (report_of (part_of s))) room))
    where
      go : (few fit : Bool) → wipe_from (cond few (cond fit (Ok (length (report_of (part_of s)))) (Err ReportTooLong)) (Err TooManyFaults)) n ≡ 0
      go true true = refl
      go true false = refl
      go false fit = refl

-- the report that comes after changes nothing in that
pub after_keeps : (refusal : Result ⊤ Refusal) (s : List ℕ) (room : ℕ) → keeps_buffers (answer_after refusal s room) ≡ keeps_buffers refusal
unfolding answer_after keeps_buffers is_early
after_keeps refusal s room = go refusal (leb (length (report_of (part_of s))) room)
  where
    go : (v : Result ⊤ Refusal) (fit : Bool) → keeps_buffers (result_and v (cond fit (Ok (length (report_of (part_of s)))) (Err ReportTooLong))) ≡ keeps_buffers v
    go (Ok u) true = refl
    go (Ok u) false = refl
    go (Err r) fit = refl

pub wipe_fits : (r : Result ℕ Refusal) (n : ℕ) → wipe_from r n ≤ n
unfolding wipe_from
wipe_fits r n = go (keeps_buffers r)
  where
    go : (b : Bool) → cond b n 0 ≤ n
    go true = omega arith
    go false = omega arith
