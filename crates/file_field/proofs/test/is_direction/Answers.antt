-- `file_field::test::is_direction` meets its contract.
use Rattle.file_field.specs.Test.{is_direction}
use Rattle.file_field.proofs.test.is_direction.Goals as goal

pub returns : goal.returns
unfolding is_direction
returns c = cc
