-- What the program prints for a file. Definitions only.
use Rattle.std.specs.Prelude.{cond, List, ℕ, ltb, length, Result, Ok, Err}
use Rattle.refusal.specs.declared.Refusal.{Refusal}
use Rattle.refusal.specs.Numbers.{number}
use Rattle.num_text.specs.Put.{bytes}
use Rattle.file_part.specs.Part.{Part, part_of}
use Rattle.dfm_own.specs.dfm_core.specs.Faults.{report_of}
use Rattle.dfm_own.specs.dfm_core.specs.Answer.{answer_of}
use Rattle.dfm_print.specs.Print.{refusal_line}

-- "prints the report, `refused` with a blank and the number"
unfoldable pub answer_text : Part → Result ℕ Refusal → List ℕ
answer_text t (Ok n) = report_of t
answer_text t (Err r) = refusal_line (number r)

-- "or `too long`" for more than 16,384 bytes. What is lent: scratch for any file that is not, 512 fault rows, and so many bytes for the report
unfoldable pub program_text : List ℕ → ℕ → List ℕ
program_text s room = cond (ltb 16384 (length s)) (bytes "too long\n") (answer_text (part_of s) (answer_of s 6432 7456 512 room))
