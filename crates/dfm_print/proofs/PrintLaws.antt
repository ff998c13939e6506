-- The two cases of an answer.
use mathlib.Core.Path.{◌≡◌, refl, sym, ap, ◌∙◌}
use mathlib.Core.List.{List}
use Prim.Native.Nat.{ℕ}
use Rattle.num_float.proofs.Tests.{contrary}
use Rattle.num_text.specs.Put.{Put}
use Rattle.num_text.proofs.PutLaws.{put_same}
use Rattle.std.specs.Prelude.{Result, Ok, Err}
use Rattle.refusal.specs.declared.Refusal.{Refusal}
use Rattle.refusal.specs.Numbers as refusal
use Rattle.dfm_core.specs.Answer.{number_of, length_of, is_accepted}
use Rattle.dfm_print.specs.Print.{refusal_line, AnswerPut}

pub put_accepted : (a : Result ℕ Refusal) (report : List ℕ) (n : ℕ) → a ≡ Ok n → AnswerPut a report report n
unfolding length_of is_accepted
put_accepted a report n e = record { accepted = λ ok. (refl, sym (ap length_of e)); refused = λ no. absurd (contrary (ap is_accepted e) no) }

pub put_refused : (a : Result ℕ Refusal) (report report' : List ℕ) (k : Refusal) (n r : ℕ) → a ≡ Err k → n ≡ refusal.number k → Put report 0 (refusal_line n) report' r → AnswerPut a report report' r
unfolding number_of is_accepted
put_refused a report report' k n r e is put =
    record { accepted = λ ok. absurd (contrary ok (ap is_accepted e)); refused = λ no. put_same _ _ (ap refusal_line (is ∙ sym (ap number_of e))) put }
