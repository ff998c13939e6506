-- `print_walls::put_floor` meets its contract: a row where the tests of dfm.rs are met.
use Rattle.print_walls.proofs.FaultLaws.{floor_none, floor_layer, floor_few}
use Rattle.print_walls.proofs.put_floor.Goals as goal

pub returns-then-x-layer-2 : goal.returns-then-x-layer-2
returns-then-x-layer-2 c = floor_layer c.if-x-layer.true c.if-x-layer-2.true c.put_flaw.ensures

pub returns-then-x-layer : goal.returns-then-x-layer
returns-then-x-layer c = floor_few c.if-x-layer.true c.if-x-layer-2.false c.put_flaw-then-x-layer.ensures

pub returns : goal.returns
returns c = floor_none c.if-x-layer.false
