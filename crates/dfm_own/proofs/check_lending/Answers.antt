-- `dfm_own::check_lending` meets its contract: the array holds rows that are no faults.
use Rattle.std.proofs.Common.{List, replicate, subst, arith}
use Rattle.fault_row.specs.declared.row.FaultRow.{FaultRow}
use Rattle.dfm.specs.Check.{Outcome}
use Rattle.dfm_own.proofs.check_lending.Goals as goal

pub whole_as_slice-check : goal.whole_as_slice-check
whole_as_slice-check g c = omega (arith, c.requires)

pub returns : goal.returns
returns g c =
    record {
      rows' = c.check.new.rows;
      outcome =
          subst
          (λ (z : FaultRow). Outcome c.args.file.now c.args.words.now c.check.new.words c.args.reals.now c.check.new.reals (replicate g.row.ROWS z) c.check.new.rows c.args.report.now c.check.new.report c.check.result)
          c.zero_row-rows.ensures
          c.check.ensures;
    }
