-- `file_ok::rules::run_is_good` meets its contract.
use Rattle.file_ok.specs.Rules.{run_good}
use Rattle.file_ok.proofs.rules.run_is_good.Goals as goal

pub returns : goal.returns
unfolding run_good
returns c = cc
