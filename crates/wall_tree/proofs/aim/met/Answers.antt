-- `wall_tree::aim::met` meets its contract.
use Rattle.wall_tree.proofs.aim.met.Goals as goal

pub returns : goal.returns
returns c = c.meeting.ensures
