-- `sheet_thickness::put_kept` meets its contract.
use Rattle.sheet_thickness.specs.Work.{is_far}
use Rattle.sheet_thickness.proofs.ListLaws.{put_none, put_past, put_more, put_all}
use native.Mathlib.Omega.{arith}
use Rattle.sheet_thickness.proofs.put_kept.Goals as goal
use Rattle.sheet_thickness.proofs.put_kept.Goals.{then-reals-falling, else-reals-falling}

pub loop-k-init : goal.loop-k-init
loop-k-init c = (omega arith, put_none _ _ _)

pub loop-k-preserved : goal.loop-k-preserved
loop-k-preserved c =
    let h = c.requires in
    let inv = c.loop-k.invariant in
    elim c.if-reals-falling.branch [
      | then-reals-falling w ↦ rw (w.n-is, w.words-is) ((omega (arith, inv.0), put_more _ _ _ _ _ _ _ h.fact_1 c.loop-k-test.true inv.0 w.if-reals-falling.true inv.1))
      | else-reals-falling w ↦ rw (w.n-is, w.words-is) ((omega (arith, inv.0), put_past _ _ _ _ _ _ w.if-reals-falling.false inv.1))
    ]

pub returns : goal.returns
unfolding is_far
returns c =
    let inv = c.loop-k.invariant in
    put_all _ _ _ _ _ _ _ (omega arith) c.loop-k-test.false inv.1
