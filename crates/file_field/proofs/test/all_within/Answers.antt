-- `file_field::test::all_within` meets its contract.
use Rattle.file_field.specs.Test.{all_within}
use Rattle.file_field.proofs.test.all_within.Goals as goal

pub returns : goal.returns
unfolding all_within
returns c = cc
