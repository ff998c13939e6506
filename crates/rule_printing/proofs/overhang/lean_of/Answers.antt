-- `rule_printing::overhang::lean_of` meets its contract: the numbers of the definition.
use Rattle.rule_printing.proofs.OverhangLaws.{lean_is}
use Rattle.rule_printing.proofs.overhang.lean_of.Goals as goal

pub returns : goal.returns
returns c = lean_is _ c.requires _ _ c.max-tol.ensures c.sine.ensures
