-- `file_field::test::in_range` meets its contract.
use Rattle.file_field.specs.Test.{in_range}
use Rattle.file_field.proofs.test.in_range.Goals as goal

pub returns : goal.returns
unfolding in_range
returns c = cc
