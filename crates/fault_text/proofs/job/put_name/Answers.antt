-- `fault_text::job::put_name` meets its contract: a part of the file, or the other words.
use Rattle.fault_text.proofs.JobLaws.{job_room, name_lent, name_no_material, name_to}
use native.Mathlib.Omega.{arith}
use Rattle.num_text.proofs.TextLaws.{adds_same}
use Rattle.fault_text.proofs.job.put_name.Goals as goal

pub read_job-job-requires : goal.read_job-job-requires
read_job-job-requires c = job_room _ _ c.requires c.job_place-place.ensures

pub overflow_add-start : goal.overflow_add-start
overflow_add-start c = omega (arith, job_room _ _ c.requires c.job_place-place.ensures)

pub overflow_cast-end : goal.overflow_cast-end
overflow_cast-end c = omega (arith, name_to _ _ _ c.job_place-place.ensures c.read_job-job.ensures c.requires, job_room _ _ c.requires c.job_place-place.ensures)

pub overflow_add-end : goal.overflow_add-end
overflow_add-end c = omega (arith, name_to _ _ _ c.job_place-place.ensures c.read_job-job.ensures c.requires, job_room _ _ c.requires c.job_place-place.ensures)

pub slice_bounds-put_bytes-count : goal.slice_bounds-put_bytes-count
slice_bounds-put_bytes-count c = omega (arith, name_to _ _ _ c.job_place-place.ensures c.read_job-job.ensures c.requires, job_room _ _ c.requires c.job_place-place.ensures)

pub slice_bounds-put_bytes-start : goal.slice_bounds-put_bytes-start
slice_bounds-put_bytes-start c = omega (arith, name_to _ _ _ c.job_place-place.ensures c.read_job-job.ensures c.requires, job_room _ _ c.requires c.job_place-place.ensures)

pub slice_bounds-put_bytes-end : goal.slice_bounds-put_bytes-end
slice_bounds-put_bytes-end c = omega (arith, name_to _ _ _ c.job_place-place.ensures c.read_job-job.ensures c.requires, job_room _ _ c.requires c.job_place-place.ensures)

pub returns-then-job : goal.returns-then-job
returns-then-job c = adds_same _ _ (name_lent _ _ _ c.job_place-place.ensures c.read_job-job.ensures _ c.if-job.true) c.put_bytes.ensures

pub returns : goal.returns
returns c = adds_same _ _ (name_no_material _ _ _ c.job_place-place.ensures c.read_job-job.ensures _ c.if-job.false) c.put_bytes-2.ensures
