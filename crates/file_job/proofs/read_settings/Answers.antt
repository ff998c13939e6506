-- `file_job::read_settings` meets its contract.
use Rattle.file_job.specs.Job.{settings_at}
use Rattle.file_job.proofs.read_settings.Goals as goal

pub returns : goal.returns
unfolding settings_at
returns c = cc
