-- `rule_printing::overhang::put_overhang` meets its contract: one row where some face hangs over.
use Rattle.rule_printing.proofs.OverhangLaws.{overhang_none, overhang_one}
use Rattle.rule_printing.proofs.overhang.put_overhang.Goals as goal

pub returns-then-found-eq0 : goal.returns-then-found-eq0
returns-then-found-eq0 c = overhang_none _ c.if-found-eq0.true

pub returns : goal.returns
returns c = overhang_one _ c.if-found-eq0.false c.put_flaw.ensures
