-- `file_field::read::f64_at` meets its contract.
use Rattle.file_field.specs.Field.{f64_at}
use Rattle.file_field.proofs.read.f64_at.Goals as goal

pub returns : goal.returns
unfolding f64_at
returns c = cc
