-- `file_job_ok::rules::head_is_good` meets its contract.
use Rattle.file_job_ok.specs.Rules.{head_good}
use Rattle.file_job_ok.proofs.rules.head_is_good.Goals as goal

pub returns : goal.returns
unfolding head_good
returns c = cc
