-- `dfm::check::check_in` meets its contract.
use Rattle.std.proofs.Common.{◌≡◌, ◌∙◌, ap, ℕ, ◌≤◌, List, length, arith}
use Rattle.fault_row.specs.declared.row.FaultRow.{FaultRow}
use Rattle.fault_row.specs.Row.{row_at_of}
use Rattle.fault_rows.specs.Rows.{painted, wiped}
use Rattle.dfm_core.specs.Work.{wipe_from}
use Rattle.dfm_core.proofs.AnswerLaws.{wipe_fits}
use Rattle.dfm.proofs.OutcomeLaws.{found_taken, outcome}
use Rattle.dfm.proofs.check.check_in.Goals as goal

pub finish-answer-requires : goal.finish-answer-requires
finish-answer-requires c =
    let fits : c.fault_count-faults.result ≤ length c.args.rows.now = omega (arith, c.fault_count-faults.ensures, c.find_faults-found.ensures.fits) in
    found_taken _ _ _ _ _ _ _ _ _ _ c.fault_count-faults.ensures fits c.put_rows.ensures c.take_rows.ensures c.find_faults-found.ensures.ready

pub wipe_rows-requires : goal.wipe_rows-requires
wipe_rows-requires c = rw c.wipe_from.ensures (wipe_fits c.finish-answer.result (length c.put_rows.new.rows))

pub returns : goal.returns
returns c =
    let rows_long : length c.put_rows.new.rows ≡ length c.args.rows.now = c.put_rows.auto.rows in
    outcome _ _ _ _ _ _ _ _ _ _ _ _ _ _ _ _ _ _
    record {
      finding = c.find_faults-found.ensures;
      room = c.requires;
      words_long = c.find_faults-found.auto.words;
      reals_long = c.find_faults-found.auto.reals;
      put =
          c.put_rows.ensures
          ∙ ap (λ (n : ℕ). painted (row_at_of c.find_faults-found.new.cells c.find_faults-found.new.numbers) n c.args.rows.now) c.fault_count-faults.ensures;
      ended = c.finish-answer.ensures;
      wipes =
          c.wipe_rows.ensures
          ∙ ap (λ (n : ℕ). wiped n c.put_rows.new.rows) (c.wipe_from.ensures ∙ ap (wipe_from c.finish-answer.result) rows_long);
    }
