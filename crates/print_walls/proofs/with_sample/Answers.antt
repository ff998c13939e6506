-- `print_walls::with_sample` meets its contract.
use Rattle.print_walls.proofs.ThinnestLaws.{sample_thinner, sample_other}
use Rattle.print_walls.proofs.with_sample.Goals as goal

pub returns-then-sample-least : goal.returns-then-sample-least
returns-then-sample-least c = sample_thinner _ _ _ _ c.if-sample-least.true c.is_stacked.ensures

pub returns : goal.returns
returns c = sample_other _ _ _ c.if-sample-least.false
