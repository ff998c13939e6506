-- `file_part::read::first_vertex` meets its contract.
use Rattle.file_part.specs.Part.{first_at}
use Rattle.file_part.proofs.read.first_vertex.Goals as goal

pub returns : goal.returns
unfolding first_at
returns c = cc
