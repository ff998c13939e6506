-- `fault_rows::wipe_rows` meets its contract: the rows from `from` on are filled with no fault.
use Rattle.std.proofs.Common.{rules, arith, ◌∙◌}
use Rattle.std.proofs.lemmas.Grind.{common_steps}
use Rattle.fault_rows.proofs.RowsLaws.{wiped_filled}
use Rattle.fault_rows.proofs.wipe_rows.Goals as goal

pub returns : goal.returns
returns c = wiped_filled c.args.from c.args.rows.now _ c.requires (c.fill.ensures.after (λ y h. search rules) ∙ grind (arith, common_steps))
