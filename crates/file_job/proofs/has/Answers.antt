-- `file_job::has` meets its contract.
use Rattle.file_job.specs.Job.{has_flag}
use Rattle.file_job.proofs.has.Goals as goal

pub returns : goal.returns
unfolding has_flag
returns c = cc
