-- `rule_corners::sharp::is_reached` meets its contract.
use Rattle.rule_corners.proofs.SharpLaws.{reached_first, reached_second}
use Rattle.rule_corners.proofs.sharp.is_reached.Goals as goal

pub open_towards-requires : goal.open_towards-requires
open_towards-requires c = c.requires

pub returns-then-open_towards : goal.returns-then-open_towards
returns-then-open_towards c = reached_first _ _ _ _ _ c.mul.ensures c.add.ensures c.open_towards.ensures c.if-open_towards.true

pub open_towards-requires-2 : goal.open_towards-requires-2
open_towards-requires-2 c = c.requires

pub returns : goal.returns
returns c = reached_second _ _ _ _ _ c.mul.ensures c.add.ensures c.open_towards.ensures _ _ _ c.if-open_towards.false c.mul-2.ensures c.add-2.ensures c.open_towards-2.ensures
