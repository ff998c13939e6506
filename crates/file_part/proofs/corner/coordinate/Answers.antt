-- `file_part::corner::coordinate` meets its contract.
use Rattle.file_job.specs.file_field.specs.Field.{f64_at}
use Rattle.file_part.proofs.CornerLaws.{no_nan_bits}
use Rattle.file_part.proofs.corner.coordinate.Goals as goal

pub float_from_bits-result : goal.float_from_bits-result
float_from_bits-result c = no_nan_bits _ _ _ _ c.u64_at.ensures c.requires.fact_2

pub returns : goal.returns
unfolding f64_at
returns c = cc
