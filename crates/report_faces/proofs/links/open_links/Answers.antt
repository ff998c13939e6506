-- `report_faces::links::open_links` meets its contract: the cells before b say that there is none.
use native.Mathlib.Omega.{arith}
use lib.ListN.{length}
use Rattle.fault_merge.proofs.RecallLaws.{front_none, front_set}
use Rattle.report_faces.proofs.LinkLaws.{open_more, all_open}
use Rattle.report_faces.proofs.links.open_links.Goals as goal

pub loop-b-init : goal.loop-b-init
loop-b-init c = (front_none _ _, λ q h. absurd (omega (arith, h)))

pub overflow_cast-work : goal.overflow_cast-work
overflow_cast-work c = omega (arith, c.requires.fact_2)

pub overflow_add-work : goal.overflow_add-work
overflow_add-work c = omega (arith, c.requires.fact_1, c.loop-b.invariant.0.long, c.loop-b-test.true)

pub bounds-work-from : goal.bounds-work-from
bounds-work-from c = omega (arith, c.requires.fact_1, c.loop-b.invariant.0.long, c.loop-b-test.true)

pub loop-b-preserved : goal.loop-b-preserved
loop-b-preserved c = (front_set _ _ _ _ _ c.loop-b.invariant.0 (omega arith), open_more c.args.from (length c.args.labels.now) c.loop-b.b c.args.work.now _ c.loop-b.invariant.0 (omega (arith, c.requires.fact_1, c.loop-b-test.true)) c.loop-b.invariant.1)

pub shape_of-work : goal.shape_of-work
shape_of-work c = c.loop-b.invariant.0.long

pub returns : goal.returns
returns c =
    record {
      fact_1 = all_open _ _ _ _ c.loop-b.b (omega arith) (omega (arith, c.loop-b-test.false)) c.loop-b.invariant.1;
      fact_2 = c.loop-b.invariant.0;
    }
