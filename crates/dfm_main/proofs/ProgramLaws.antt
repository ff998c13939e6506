-- What the program prints: from the answer of the check to the bytes.
use mathlib.Core.Path.{◌≡◌, refl, sym, ap, ◌∙◌, subst}
use mathlib.Core.Bool.{Bool, true, false, cond}
use mathlib.Core.List.{List, ◌++◌}
use Prim.Native.Nat.{ℕ, ◌+◌, ◌-◌, ◌≤◌, ◌<◌, ◌^◌, min}
use native.Mathlib.Nat.{zero-add}
use native.Mathlib.Omega.{arith}
use lib.Dec.{eqb, leb}
use lib.ListN.{length, drop, length-replicate}
use lib.Seq.{sets-eq}
use lib.Ieee.{Float}
use borrow.Author.Tests.{lt-ltb, le-ltb, leb-true}
use Rattle.std.specs.Prelude.{⊤, Result, Ok, Err}
use Rattle.std.specs.Result.{result_and}
use Rattle.refusal.specs.declared.Refusal.{Refusal}
use Rattle.refusal.specs.declared.Refusal.TheVariants.{TooManyFaults, ReportTooLong}
use Rattle.refusal.specs.Numbers as refusal
use Rattle.num_float.proofs.Tests.{contrary}
use Rattle.num_text.specs.Put.{bytes, over, advance, Put}
use Rattle.num_text.proofs.PutLaws.{put_same}
use Rattle.file_part.specs.Part.{Part, part_of}
use Rattle.scratch.specs.Refusal.{body_result_of}
use Rattle.fault_rows.specs.Rows.{zero_row_of}
use Rattle.dfm_own.specs.dfm_core.specs.Faults.{faults_of, report_of}
use Rattle.dfm_own.specs.dfm_core.specs.Answer.{number_of, length_of, is_accepted, answer_of}
use Rattle.dfm_own.specs.dfm.proofs.Demands.{report_alone, report_length}
use Rattle.dfm_own.specs.Own.{OwnOutcome}
use Rattle.dfm_print.specs.Print.{refusal_line, AnswerPut}
use Rattle.dfm_main.specs.Program.{answer_text, program_text}

-- ---- a text that stands at the front of a slice was put there
front_next : (n : ℕ) → n < 2 ^ 63 → n ≡ 0 + min n (2 ^ 63 - 0)
front_next n h = omega arith

front_put : (d p e : List ℕ) → length d < 2 ^ 63 → length p ≤ length d → e ≡ p ++ drop (length p) d → Put d 0 p e (length p)
unfolding over advance
front_put d p e small fits is =
    record {
      room = small;
      slice = is ∙ ap (λ (i : ℕ). p ++ drop i d) (sym (zero-add (length p))) ∙ sym (sets-eq p d 0 (omega (arith, fits)));
      next = front_next (length p) (omega (arith, small, fits));
    }

-- a report that is accepted fits
fits_by : (v : Result ⊤ Refusal) (few fit : Bool) (n room : ℕ) → leb n room ≡ fit → is_accepted (result_and v (cond few (cond fit (Ok n) (Err ReportTooLong)) (Err TooManyFaults))) ≡ true → n ≤ room
unfolding is_accepted
fits_by (Ok u) true true n room t e = leb-true n room t
fits_by (Ok u) true false n room t e = absurd (contrary e refl)
fits_by (Ok u) false fit n room t e = absurd (contrary e refl)
fits_by (Err r) few fit n room t e = absurd (contrary e refl)

accepted_fits : (s : List ℕ) (words reals rows room : ℕ) → is_accepted (answer_of s words reals rows room) ≡ true → length (report_of (part_of s)) ≤ room
unfolding answer_of
accepted_fits s words reals rows room e =
    fits_by (body_result_of s words reals) (leb (length (faults_of (part_of s))) rows) _ (length (report_of (part_of s))) room refl e

-- ---- the answer, from the buffer that the check has left
told : (t : Part) (out out1 out2 : List ℕ) (a : Result ℕ Refusal) (r : ℕ) → length out < 2 ^ 63 → (is_accepted a ≡ true → length (report_of t) ≤ length out) →
    (is_accepted a ≡ true → out1 ≡ report_of t ++ drop (length (report_of t)) out) → (is_accepted a ≡ true → length_of a ≡ length (report_of t)) →
    (is_accepted a ≡ false → out1 ≡ out) → AnswerPut a out1 out2 r → Put out 0 (answer_text t a) out2 r
unfolding answer_text is_accepted length_of number_of
told t out out1 out2 (Ok n) r small fits report long none put =
    let both = put.accepted refl in
    let p : Put out 0 (report_of t) out1 (length (report_of t)) = front_put out (report_of t) out1 small (fits refl) (report refl) in
    subst (λ (k : ℕ). Put out 0 (report_of t) out2 k) (sym (both.1 ∙ long refl)) (subst (λ (l : List ℕ). Put out 0 (report_of t) l (length (report_of t))) (sym both.0) p)
told t out out1 out2 (Err k) r small fits report long none put = subst (λ (l : List ℕ). Put l 0 (refusal_line (refusal.number k)) out2 r) (none refl) (put.refused refl)

-- ---- return by return
module _ (s out out2 : List ℕ) (r : ℕ) where
  pub printed_long : 16384 < length s → Put out 0 (bytes "too long\n") out2 r → Put out 0 (program_text s (length out)) out2 r
  unfolding program_text
  printed_long h put = rw (lt-ltb 16384 (length s) h) put

  pub printed_answer : (words words' : List ℕ) (reals reals' : List Float) (out1 : List ℕ) (a : Result ℕ Refusal) → length s ≤ 16384 → length out < 2 ^ 63 →
      length words ≡ 6432 → length reals ≡ 7456 → OwnOutcome 512 s words words' reals reals' out out1 a → AnswerPut a out1 out2 r → Put out 0 (program_text s (length out)) out2 r
  unfolding program_text
  printed_answer words words' reals reals' out1 a short small w q own put =
      let o = own.outcome in
      let is : a ≡ answer_of s 6432 7456 512 (length out) = o.answer ∙ rw (w, q, length-replicate 512 zero_row_of) refl in
      rw (le-ltb 16384 (length s) short)
      (put_same _ _ (ap (answer_text (part_of s)) is) (told (part_of s) out out1 out2 a r small (λ ok. accepted_fits s 6432 7456 512 (length out) (ap is_accepted (sym is) ∙ ok)) (report_alone o) (report_length o) o.unreported put))
