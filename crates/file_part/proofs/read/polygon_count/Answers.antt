-- `file_part::read::polygon_count` meets its contract.
use Rattle.file_part.specs.Layout.{polygon_count_of}
use Rattle.file_part.proofs.read.polygon_count.Goals as goal

pub returns : goal.returns
unfolding polygon_count_of
returns c = cc
