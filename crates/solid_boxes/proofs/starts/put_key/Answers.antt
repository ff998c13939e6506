-- `solid_boxes::starts::put_key` meets its contract.
use lib.ListN.{length-set}
use Rattle.solid_boxes.proofs.starts.put_key.Goals as goal

pub returns : goal.returns
returns c = simp length-set
