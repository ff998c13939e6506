-- `fault_text::sheet::put_ratio` meets its contract: with a material or without.
use Rattle.fault_text.proofs.JobLaws.{ratio_of_material, ratio_no_material}
use Rattle.num_text.proofs.TextLaws.{adds_same}
use Rattle.fault_text.proofs.sheet.put_ratio.Goals as goal

pub returns-then-job : goal.returns-then-job
returns-then-job c = adds_same _ _ (ratio_of_material _ _ c.job_of-job.ensures c.if-job.true) c.put_thousandths.ensures

pub returns : goal.returns
returns c = adds_same _ _ (ratio_no_material _ _ c.job_of-job.ensures c.if-job.false) c.put_bytes.ensures
