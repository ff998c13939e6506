-- `rule_printing::closed::put_open` meets its contract: one row where some key is open.
use Rattle.rule_printing.proofs.ClosedLaws.{open_none, open_one}
use Rattle.rule_printing.proofs.closed.put_open.Goals as goal

pub returns-then-keys-eq0 : goal.returns-then-keys-eq0
returns-then-keys-eq0 c = open_none _ c.if-keys-eq0.true

pub returns : goal.returns
returns c = open_one _ c.requires c.if-keys-eq0.false c.put_flaw.ensures
