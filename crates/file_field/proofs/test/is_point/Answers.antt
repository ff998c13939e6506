-- `file_field::test::is_point` meets its contract.
use Rattle.file_field.specs.Test.{is_point}
use Rattle.file_field.proofs.test.is_point.Goals as goal

pub returns : goal.returns
unfolding is_point
returns c = cc
