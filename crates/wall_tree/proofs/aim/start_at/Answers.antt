-- `wall_tree::aim::start_at` meets its contract.
use Rattle.wall_tree.proofs.AimLaws.{start_down, start_up, start_blind}
use Rattle.wall_tree.proofs.aim.start_at.Goals as goal

pub returns-then-i : goal.returns-then-i
returns-then-i c = start_down _ _ c.if-i.true

pub returns-then-i-2 : goal.returns-then-i-2
returns-then-i-2 c = start_up _ _ c.if-i.false c.if-i-2.true

pub returns : goal.returns
returns c = start_blind _ _ c.if-i.false c.if-i-2.false
