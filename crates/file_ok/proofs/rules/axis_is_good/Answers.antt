-- `file_ok::rules::axis_is_good` meets its contract.
use Rattle.file_ok.specs.Rules.{axis_good}
use Rattle.file_ok.proofs.rules.axis_is_good.Goals as goal

pub returns : goal.returns
unfolding axis_good
returns c = cc
