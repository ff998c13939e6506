-- `file_job::read_material` meets its contract.
use Rattle.file_job.specs.Job.{material_at}
use Rattle.file_job.proofs.read_material.Goals as goal

pub returns : goal.returns
unfolding material_at
returns c = cc
