-- `file_job_ok::rules::settings_are_good` meets its contract.
use Rattle.file_job_ok.specs.Rules.{settings_good}
use Rattle.file_job_ok.proofs.rules.settings_are_good.Goals as goal

pub returns : goal.returns
unfolding settings_good
returns c = cc
