-- `rule_machining::walls::put_thin_wall` meets its contract: a flaw where the test of dfm.rs is met.
use Rattle.rule_machining.proofs.WallLaws.{thin_wall_one, thin_wall_none}
use Rattle.rule_machining.proofs.walls.put_thin_wall.Goals as goal

pub returns-then-x-wall : goal.returns-then-x-wall
returns-then-x-wall c = thin_wall_one c.if-x-wall.true c.severity.ensures c.put_flaw.ensures

pub returns : goal.returns
returns c = thin_wall_none c.if-x-wall.false
