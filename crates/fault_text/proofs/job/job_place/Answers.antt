-- `fault_text::job::job_place` meets its contract: the job and the trailer are 144 bytes.
use Rattle.fault_text.proofs.JobLaws.{checked_length}
use native.Mathlib.Omega.{arith}
use Rattle.fault_text.proofs.job.job_place.Goals as goal

pub overflow_sub-result : goal.overflow_sub-result
overflow_sub-result c = omega (arith, checked_length _ c.requires)

pub returns : goal.returns
returns c = omega (arith, checked_length _ c.requires)
