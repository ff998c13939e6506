-- `wall_tree::aim::later` meets its contract.
use Rattle.wall_tree.proofs.aim.later.Goals as goal

pub returns-then-t-a : goal.returns-then-t-a
returns-then-t-a c = rw c.if-t-a.true

pub returns-else-t-a : goal.returns-else-t-a
returns-else-t-a c = rw c.if-t-a.false
