-- `solid_segments::shared::put_owner` meets its contract.
use native.Mathlib.Omega.{arith}
use Rattle.solid_segments.proofs.PlaceLaws.{SideAt, lent_still, owned_more, owns_none, owns_run}
use Rattle.solid_segments.proofs.shared.put_owner.Goals as goal

pub loop-s-init : goal.loop-s-init
loop-s-init c = rw (← c.read_run-run.ensures.first_is) (owns_none _ _ _)

pub loop-s-preserved : goal.loop-s-preserved
loop-s-preserved c =
    let side : SideAt c.args.file.now c.loop-s.mem c.args.vertices c.args.p
    c.read_run-run.result.start c.read_run-run.result.end c.loop-s.s = record {
      inside = c.requires.fact_2;
      lent = lent_still c.requires.fact_1 c.loop-s.auto.mem;
      run = c.read_run-run.ensures;
      from = c.loop-s.auto.s;
      before = c.loop-s-test.true;
    } in owned_more side c.args.mem.now _ c.loop-s.invariant

pub returns : goal.returns
returns c = owns_run c.read_run-run.ensures c.loop-s.s (omega arith) c.args.mem.now c.loop-s.mem c.loop-s.invariant
