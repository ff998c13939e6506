-- `file_job::read_job` meets its contract.
use Rattle.file_job.specs.Job.{job_at}
use Rattle.file_job.proofs.read_job.Goals as goal

pub returns : goal.returns
unfolding job_at
returns c = cc
