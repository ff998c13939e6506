-- `file_field::read::vec_at` meets its contract.
use Rattle.file_field.specs.Field.{vec_at_of}
use Rattle.file_field.proofs.read.vec_at.Goals as goal

pub returns : goal.returns
unfolding vec_at_of
returns c = cc
