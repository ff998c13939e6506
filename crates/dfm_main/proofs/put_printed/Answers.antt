-- `dfm_main::put_printed` meets its contract, return by return.
use Prim.Native.Nat.{ℕ}
use native.Mathlib.Omega.{arith}
use borrow.Author.Rules.{rules}
use lib.ListN.{length-replicate}
use lib.Ieee.{binary64, of_bits}
use Rattle.dfm_main.proofs.ProgramLaws.{printed_long, printed_answer}
use Rattle.dfm_main.proofs.put_printed.Goals as goal

pub returns-then-file-gt-LONGEST : goal.returns-then-file-gt-LONGEST
returns-then-file-gt-LONGEST c =
    let same = c.put_bytes.ensures.same_slice in
    let all = printed_long _ _ _ _ c.if-file-gt-LONGEST.true c.put_bytes.ensures.put in
    search rules

pub returns : goal.returns
returns c =
    printed_answer _ _ _ _ _ _ _ _ _ _ c.if-file-gt-LONGEST.false (omega (arith, c.well_formed.1.0))
    (length-replicate {A = ℕ} 6432 0) (length-replicate 7456 (of_bits binary64 0)) c.check_own-answer.ensures c.put_answer.ensures
