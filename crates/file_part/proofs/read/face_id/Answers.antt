-- `file_part::read::face_id` meets its contract.
use Rattle.file_part.specs.Part.{face_at}
use Rattle.file_part.proofs.read.face_id.Goals as goal

pub returns : goal.returns
unfolding face_at
returns c = cc
