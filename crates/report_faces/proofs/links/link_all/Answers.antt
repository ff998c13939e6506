-- `report_faces::links::link_all` meets its contract: those from p on are linked.
use mathlib.Core.Path.{◌∙◌}
use native.Mathlib.Omega.{arith}
use Rattle.fault_merge.proofs.RecallLaws.{front_none, front_then}
use Rattle.report_faces.proofs.LinkLaws.{linking_at}
use Rattle.report_faces.proofs.links.link_all.Goals as goal

pub open_links-requires : goal.open_links-requires
open_links-requires c =
    record {
      fact_1 = c.requires.fact_1;
      fact_2 = c.requires.fact_2;
    }

pub loop-p-init : goal.loop-p-init
loop-p-init c = (front_none _ _, c.open_links.ensures.fact_1)

pub link-requires : goal.link-requires
link-requires c =
    record {
      labels_in_bounds_1 = omega (arith, c.requires.fact_1, c.loop-p.invariant.0.long, c.open_links.ensures.fact_2.long);
      labels_in_bounds_2 = c.requires.fact_2;
      labels_in_bounds_3 = omega (arith, c.loop-p-test.true);
      low_1 = c.requires.fact_3;
      low_2 = linking_at _ _ _ _ _ (omega (arith, c.loop-p-test.true)) c.loop-p.invariant.1;
    }

pub loop-p-preserved : goal.loop-p-preserved
loop-p-preserved c = (front_then _ _ _ _ c.loop-p.invariant.0 c.link.ensures.fact_2, c.link.ensures.fact_1)

pub shape_of-work : goal.shape_of-work
shape_of-work c = c.loop-p.invariant.0.long ∙ c.open_links.ensures.fact_2.long

pub returns : goal.returns
returns c =
    record {
      fact_1 = linking_at _ _ _ _ _ (omega (arith, c.loop-p-test.false)) c.loop-p.invariant.1;
      fact_2 = front_then _ _ _ _ c.open_links.ensures.fact_2 c.loop-p.invariant.0;
    }
