-- `file_ok::rules::entry_is_good` meets its contract.
use Rattle.file_ok.specs.Rules.{entry_good}
use Rattle.file_ok.proofs.rules.entry_is_good.Goals as goal

pub returns : goal.returns
unfolding entry_good
returns c = cc
