-- `rule_sheet::sheet::put_uneven` meets its contract: one row.
use Rattle.rule_sheet.proofs.SheetLaws.{uneven_put}
use Rattle.rule_sheet.proofs.sheet.put_uneven.Goals as goal

pub returns : goal.returns
returns c = uneven_put c.put_flaw.ensures
