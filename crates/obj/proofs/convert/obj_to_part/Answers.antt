-- `obj::convert::obj_to_part` meets its contract.
use mathlib.Core.Path.{sym, ◌∙◌}
use Prim.Native.Nat.{ℕ}
use lib.ListN.{length, length-replicate}
use lib.Ieee.{binary64, of_bits}
use Rattle.obj_text.proofs.TallyLaws.{passed_up}
use Rattle.obj.proofs.ConvertLaws.{lines_refused, lines_passed, accepted, converts_refused, converts_written}
use Rattle.obj.proofs.WriteLaws.{ready}
use native.Mathlib.Omega.{arith}
use Rattle.obj.proofs.convert.obj_to_part.Goals as goal

pub returns-in_err-t : goal.returns-in_err-t
returns-in_err-t c =
    rw (passed_up c.from_residual.result _ c.from_residual.ensures.1)
    (converts_refused c.args.text.now c.args.job.now c.args.out.now _
    (lines_refused c.args.text.now _ _ _ (length c.args.job.now) (length c.args.out.now) c.judge.ensures _ c.in_err-t.was))

pub returns-in_err-size_refusal : goal.returns-in_err-size_refusal
returns-in_err-size_refusal c =
    rw (passed_up c.from_residual-in_err-size_refusal.result _ c.from_residual-in_err-size_refusal.ensures.1)
    (converts_refused c.args.text.now c.args.job.now c.args.out.now _
    (sym c.in_err-size_refusal.was
    ∙ c.size_refusal.ensures
    ∙ lines_passed c.args.text.now _ _ _ (length c.args.job.now) (length c.args.out.now) c.judge.ensures _ c.in_ok-t.was))

pub write-requires-clause-fact_1 : goal.write-requires-clause-fact_1
write-requires-clause-fact_1 c =
    sym (lines_passed c.args.text.now _ _ _ (length c.args.job.now) (length c.args.out.now) c.judge.ensures _ c.in_ok-t.was) ∙ sym c.size_refusal.ensures ∙ c.in_ok-size_refusal.was

pub write-requires-clause-fact_2 : goal.write-requires-clause-fact_2
write-requires-clause-fact_2 c =
    let none = sym (lines_passed c.args.text.now _ _ _ (length c.args.job.now) (length c.args.out.now) c.judge.ensures _ c.in_ok-t.was) ∙ sym c.size_refusal.ensures ∙ c.in_ok-size_refusal.was in
    let a = accepted c.args.text.now (length c.args.job.now) (length c.args.out.now) none in
    ready c.args.text.now _ _ _ (omega (arith, c.well_formed.0)) a.lines a.corners_most a.faces_most
    (record { numbers_long = length-replicate {A = ℕ} 16449 0; indices_long = length-replicate {A = ℕ} 4098 0; counts_long = length-replicate {A = ℕ} 4098 0; slots = record { xs_long = length-replicate 16384 (of_bits binary64 0); ys_long = length-replicate 16384 (of_bits binary64 0); zs_long = length-replicate 16384 (of_bits binary64 0) } })
    c.judge.ensures c.in_ok-t.was

pub returns : goal.returns
returns c =
    converts_written c.args.text.now c.args.job.now c.args.out.now _ _
    (sym c.in_ok-size_refusal.was ∙ c.size_refusal.ensures ∙ lines_passed c.args.text.now _ _ _ (length c.args.job.now) (length c.args.out.now) c.judge.ensures _ c.in_ok-t.was) c.write.ensures
