-- `file_job_ok::rules::job_is_good` meets its contract.
use Rattle.file_job_ok.specs.Rules.{job_good}
use Rattle.file_job_ok.proofs.rules.job_is_good.Goals as goal

pub returns : goal.returns
unfolding job_good
returns c = cc
