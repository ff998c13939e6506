-- `wall_tree::aim::sooner` meets its contract.
use Rattle.wall_tree.proofs.aim.sooner.Goals as goal

pub returns-then-b-t : goal.returns-then-b-t
returns-then-b-t c = rw c.if-b-t.true

pub returns-else-b-t : goal.returns-else-b-t
returns-else-b-t c = rw c.if-b-t.false
