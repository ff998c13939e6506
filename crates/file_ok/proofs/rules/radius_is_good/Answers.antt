-- `file_ok::rules::radius_is_good` meets its contract.
use Rattle.file_ok.specs.Rules.{radius_good}
use Rattle.file_ok.proofs.rules.radius_is_good.Goals as goal

pub returns : goal.returns
unfolding radius_good
returns c = cc
