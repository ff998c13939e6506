-- `rule_flanges::flanges::put_flange` meets its contract: a row where the test of dfm.rs is met.
use Rattle.rule_flanges.specs.Flanges.{min_flange}
use Rattle.rule_flanges.proofs.FlangeLaws.{flange_none, flange_one}
use Rattle.rule_flanges.proofs.flanges.put_flange.Goals as goal

pub shape_of-cells-then-reach-min_flange : goal.shape_of-cells-then-reach-min_flange
shape_of-cells-then-reach-min_flange c = c.put_flaw.ensures.cells_kept.long

pub shape_of-numbers-then-reach-min_flange : goal.shape_of-numbers-then-reach-min_flange
shape_of-numbers-then-reach-min_flange c = c.put_flaw.ensures.numbers_kept.long

pub returns-then-reach-min_flange : goal.returns-then-reach-min_flange
unfolding min_flange
returns-then-reach-min_flange c = flange_one _ _ _ _ c.if-reach-min_flange.true c.put_flaw.ensures

pub returns : goal.returns
unfolding min_flange
returns c = flange_none _ _ _ _ c.if-reach-min_flange.false
