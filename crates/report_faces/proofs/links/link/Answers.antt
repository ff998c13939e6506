-- `report_faces::links::link` meets its contract: nothing to do for a body's lowest polygon, else it comes first of those that are linked.
use native.Mathlib.Omega.{arith}
use lib.ListN.{length-set}
use Rattle.fault_merge.proofs.RecallLaws.{front_none, front_set}
use Rattle.report_faces.proofs.LinkLaws.{link_own, link_other, label_low}
use Rattle.report_faces.proofs.links.link.Goals as goal

pub cell-b-requires : goal.cell-b-requires
cell-b-requires c = c.requires.labels_in_bounds_3

pub returns-then-b-p : goal.returns-then-b-p
returns-then-b-p c =
    record {
      fact_1 = link_own _ _ _ c.requires.labels_in_bounds_3 _ c.requires.low_2 _ c.cell-b.ensures c.if-b-p.true;
      fact_2 = front_none _ _;
    }

pub overflow_add-next : goal.overflow_add-next
overflow_add-next c = omega (arith, label_low _ c.requires.low_1 _ c.requires.labels_in_bounds_3, c.cell-b.ensures, c.requires.labels_in_bounds_1, c.requires.labels_in_bounds_3)

pub offset_bounds-work-from : goal.offset_bounds-work-from
offset_bounds-work-from c = omega (arith, label_low _ c.requires.low_1 _ c.requires.labels_in_bounds_3, c.cell-b.ensures, c.requires.labels_in_bounds_1, c.requires.labels_in_bounds_3)

pub bounds-work-from : goal.bounds-work-from
bounds-work-from c = omega (arith, label_low _ c.requires.low_1 _ c.requires.labels_in_bounds_3, c.cell-b.ensures, c.requires.labels_in_bounds_1, c.requires.labels_in_bounds_3)

pub overflow_add-work : goal.overflow_add-work
overflow_add-work c = omega (arith, c.requires.labels_in_bounds_1, c.requires.labels_in_bounds_3)

pub offset_bounds-work-from-2 : goal.offset_bounds-work-from-2
offset_bounds-work-from-2 c = omega (arith, c.requires.labels_in_bounds_1, c.requires.labels_in_bounds_3)

pub bounds-work-from-2 : goal.bounds-work-from-2
bounds-work-from-2 c = omega (arith, c.requires.labels_in_bounds_1, c.requires.labels_in_bounds_3)

pub overflow_cast-work : goal.overflow_cast-work
overflow_cast-work c = omega (arith, c.requires.labels_in_bounds_2, c.requires.labels_in_bounds_3)

pub overflow_add-work-2 : goal.overflow_add-work-2
overflow_add-work-2 c = omega (arith, label_low _ c.requires.low_1 _ c.requires.labels_in_bounds_3, c.cell-b.ensures, c.requires.labels_in_bounds_1, c.requires.labels_in_bounds_3)

pub offset_bounds-work-from-3 : goal.offset_bounds-work-from-3
offset_bounds-work-from-3 c = omega (arith, label_low _ c.requires.low_1 _ c.requires.labels_in_bounds_3, c.cell-b.ensures, c.requires.labels_in_bounds_1, c.requires.labels_in_bounds_3)

pub bounds-work-from-3 : goal.bounds-work-from-3
bounds-work-from-3 c = simp length-set (omega (arith, label_low _ c.requires.low_1 _ c.requires.labels_in_bounds_3, c.cell-b.ensures, c.requires.labels_in_bounds_1, c.requires.labels_in_bounds_3))

pub returns : goal.returns
returns c =
    record {
      fact_1 = link_other _ _ _ c.requires.labels_in_bounds_3 _ c.requires.low_2 c.requires.low_1 _ c.cell-b.ensures c.if-b-p.false c.requires.labels_in_bounds_1;
      fact_2 = front_set _ _ _ _ _ (front_set _ _ _ _ _ (front_none _ _) (omega arith)) (omega arith);
    }
