-- `rule_printing::hollows::put_hollow` meets its contract: a row where the volume is negative.
use Rattle.rule_printing.proofs.HollowLaws.{hollow_none, hollow_sls, hollow_sla}
use mathlib.Core.Path.{ap}
use mathlib.Core.Bool.{not}
use Rattle.rule_printing.proofs.hollows.put_hollow.Goals as goal

pub returns-then-not-volume : goal.returns-then-not-volume
returns-then-not-volume c = hollow_none _ (ap not c.if-not-volume.true)

pub returns-then-sls : goal.returns-then-sls
returns-then-sls c = hollow_sls (ap not c.if-not-volume.false) _ c.if-sls.true c.put_flaw.ensures

pub returns : goal.returns
returns c = hollow_sla (ap not c.if-not-volume.false) _ c.if-sls.false c.put_flaw-2.ensures
