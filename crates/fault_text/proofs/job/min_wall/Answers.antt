-- `fault_text::job::min_wall` meets its contract: the three cases of dfm.rs's `filter` and `unwrap_or`.
use Rattle.fault_text.proofs.JobLaws.{wall_of_material, wall_not_above, wall_no_material}
use Rattle.fault_text.proofs.job.min_wall.Goals as goal
use Rattle.fault_text.proofs.job.min_wall.Goals.{else-job-via-then-job+else-job-2, else-job-via-else-job}

pub returns-then-job-2 : goal.returns-then-job-2
returns-then-job-2 c = wall_of_material _ _ c.job_of-job.ensures c.if-job.true c.if-job-2.true

pub returns : goal.returns
returns c =
    elim c.else-job.branch [
      | else-job-via-then-job+else-job-2 w ↦ wall_not_above _ _ c.job_of-job.ensures w.if-job.true w.if-job-2.false
      | else-job-via-else-job w ↦ wall_no_material _ _ c.job_of-job.ensures w.if-job.false
    ]
