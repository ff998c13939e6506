-- `fault_text::job::job_of` meets its contract: the job stands before the trailer.
use Rattle.fault_text.proofs.JobLaws.{job_room, job_is}
use Rattle.fault_text.proofs.job.job_of.Goals as goal

pub read_job-requires : goal.read_job-requires
read_job-requires c = job_room _ _ c.requires c.job_place.ensures

pub returns : goal.returns
returns c = job_is _ _ _ c.job_place.ensures c.read_job.ensures
