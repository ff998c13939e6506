-- `report::report::write_report` meets its contract: with cells for a small part, or for any.
use native.Mathlib.Omega.{arith}
use Rattle.report.proofs.report.write_report.Goals as goal

pub overflow_mul-need : goal.overflow_mul-need
overflow_mul-need c = omega (arith, c.requires.rows.few)

pub overflow_add-need : goal.overflow_add-need
overflow_add-need c = omega (arith, c.requires.rows.few, c.requires.placed.laid.few)

pub write_with-requires : goal.write_with-requires
write_with-requires c =
    record {
      fact_1 = c.requires;
      fact_2 = omega (arith, c.if-need-le256.true);
      fact_3 = omega (arith, c.if-need-le256.true);
    }

pub shape_of-report-then-need-le256 : goal.shape_of-report-then-need-le256
shape_of-report-then-need-le256 c = c.write_with.auto.report

pub returns-then-need-le256 : goal.returns-then-need-le256
returns-then-need-le256 c = c.write_with.ensures

pub write_with-requires-2 : goal.write_with-requires-2
write_with-requires-2 c =
    record {
      fact_1 = c.requires;
      fact_2 = omega (arith, c.requires.rows.few, c.requires.placed.laid.few);
      fact_3 = c.requires.rows.few;
    }

pub shape_of-report : goal.shape_of-report
shape_of-report c = c.write_with-2.auto.report

pub returns : goal.returns
returns c = c.write_with-2.ensures
