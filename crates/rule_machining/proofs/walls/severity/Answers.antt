-- `rule_machining::walls::severity` meets its contract.
use Rattle.rule_machining.proofs.walls.severity.Goals as goal

pub returns-then-x-wall : goal.returns-then-x-wall
returns-then-x-wall c = rw c.if-x-wall.true

pub returns : goal.returns
returns c = rw c.if-x-wall.false
