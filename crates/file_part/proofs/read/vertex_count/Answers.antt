-- `file_part::read::vertex_count` meets its contract.
use Rattle.file_part.specs.Layout.{vertex_count_of}
use Rattle.file_part.proofs.read.vertex_count.Goals as goal

pub returns : goal.returns
unfolding vertex_count_of
returns c = cc
