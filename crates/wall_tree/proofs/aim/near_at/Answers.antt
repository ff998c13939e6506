-- `wall_tree::aim::near_at` meets its contract.
use Rattle.wall_tree.proofs.aim.near_at.Goals as goal

pub returns-then-i : goal.returns-then-i
returns-then-i c = rw c.if-i.true

pub returns-else-i : goal.returns-else-i
returns-else-i c = rw c.if-i.false
