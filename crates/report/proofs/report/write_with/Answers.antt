-- `report::report::write_with` meets its contract: measured, then written.
use mathlib.Core.Path.{◌∙◌}
use Rattle.report_faces.specs.fault_merge.proofs.RecallLaws.{merged_front}
use Rattle.report_faces.proofs.LinkLaws.{kept_low}
use Rattle.report.proofs.ReportLaws.{reported_long, reported_fits}
use Rattle.report.proofs.OrderLaws.{leading_part}
use native.Mathlib.Omega.{arith}
use Rattle.report.proofs.report.write_with.Goals as goal

pub merge-requires : goal.merge-requires
merge-requires c =
    record {
      fact_1 = c.requires.fact_1.rows;
      fact_2 = omega (arith, c.requires.fact_2);
    }

pub overflow_mul-given : goal.overflow_mul-given
overflow_mul-given c = omega (arith, c.requires.fact_1.rows.few)

pub put_links-requires : goal.put_links-requires
put_links-requires c =
    record {
      laid_1 = c.requires.fact_1.placed.laid;
      laid_2 = c.requires.fact_1.room;
      laid_3 = omega (arith, c.requires.fact_2, c.merge.ensures.fact_2);
      low = kept_low _ _ _ _ _ c.requires.fact_1;
    }

pub put_leads-lines-requires : goal.put_leads-lines-requires
put_leads-lines-requires c =
    record {
      fact_1 = c.requires.fact_1.rows;
      fact_2 = merged_front _ _ _ _ _ _ _ (omega arith) c.merge.ensures.fact_1 c.put_links.ensures.fact_2;
      fact_3 = omega (arith, c.requires.fact_2, c.merge.ensures.fact_2, c.put_links.ensures.fact_2.long);
      fact_4 = c.requires.fact_3;
    }

pub offset_bounds-order-start : goal.offset_bounds-order-start
offset_bounds-order-start c = omega (arith, c.put_leads-lines.ensures.room, c.put_leads-lines.auto.order)

pub slice_bounds-put_report-count : goal.slice_bounds-put_report-count
slice_bounds-put_report-count c = omega (arith, c.put_leads-lines.ensures.room, c.put_leads-lines.auto.order)

pub slice_bounds-put_report-start : goal.slice_bounds-put_report-start
slice_bounds-put_report-start c = omega (arith, c.put_leads-lines.ensures.room, c.put_leads-lines.auto.order)

pub slice_bounds-put_report-end : goal.slice_bounds-put_report-end
slice_bounds-put_report-end c = omega (arith, c.put_leads-lines.ensures.room, c.put_leads-lines.auto.order)

pub put_report-length-requires : goal.put_report-length-requires
put_report-length-requires c =
    record {
      fact_1 = record { kept = c.requires.fact_1; long = omega (arith, c.requires.fact_2, c.merge.ensures.fact_2, c.put_links.ensures.fact_2.long); merged = merged_front _ _ _ _ _ _ _ (omega arith) c.merge.ensures.fact_1 c.put_links.ensures.fact_2; links = c.put_links.ensures.fact_1 };
      fact_2 = leading_part _ _ _ c.put_leads-lines.ensures;
    }

pub shape_of-work-then-report-length : goal.shape_of-work-then-report-length
shape_of-work-then-report-length c = c.put_links.ensures.fact_2.long ∙ c.merge.ensures.fact_2

pub shape_of-order-then-report-length : goal.shape_of-order-then-report-length
shape_of-order-then-report-length c = c.put_leads-lines.auto.order

pub returns-then-report-length : goal.returns-then-report-length
returns-then-report-length c = reported_long _ _ _ _ c.put_report-length.ensures _ c.if-report-length.true

pub offset_bounds-order-start-2 : goal.offset_bounds-order-start-2
offset_bounds-order-start-2 c = omega (arith, c.put_leads-lines.ensures.room, c.put_leads-lines.auto.order)

pub slice_bounds-put_report-count-2 : goal.slice_bounds-put_report-count-2
slice_bounds-put_report-count-2 c = omega (arith, c.put_leads-lines.ensures.room, c.put_leads-lines.auto.order)

pub slice_bounds-put_report-start-2 : goal.slice_bounds-put_report-start-2
slice_bounds-put_report-start-2 c = omega (arith, c.put_leads-lines.ensures.room, c.put_leads-lines.auto.order)

pub slice_bounds-put_report-end-2 : goal.slice_bounds-put_report-end-2
slice_bounds-put_report-end-2 c = omega (arith, c.put_leads-lines.ensures.room, c.put_leads-lines.auto.order)

pub put_report-requires : goal.put_report-requires
put_report-requires c =
    record {
      fact_1 = record { kept = c.requires.fact_1; long = omega (arith, c.requires.fact_2, c.merge.ensures.fact_2, c.put_links.ensures.fact_2.long); merged = merged_front _ _ _ _ _ _ _ (omega arith) c.merge.ensures.fact_1 c.put_links.ensures.fact_2; links = c.put_links.ensures.fact_1 };
      fact_2 = leading_part _ _ _ c.put_leads-lines.ensures;
    }

pub shape_of-work : goal.shape_of-work
shape_of-work c = c.put_links.ensures.fact_2.long ∙ c.merge.ensures.fact_2

pub shape_of-order : goal.shape_of-order
shape_of-order c = c.put_leads-lines.auto.order

pub shape_of-report : goal.shape_of-report
shape_of-report c = c.put_report.auto.out

pub returns : goal.returns
returns c = reported_fits _ _ _ _ c.put_report-length.ensures _ _ _ c.if-report-length.false c.put_report.ensures
