-- `print_walls::put_wall` meets its contract.
use Rattle.print_walls.proofs.FaultLaws.{by_floor, by_side}
use Rattle.print_walls.proofs.put_wall.Goals as goal

pub shape_of-cells-then-wall : goal.shape_of-cells-then-wall
shape_of-cells-then-wall c = c.put_floor.ensures.cells_long

pub shape_of-numbers-then-wall : goal.shape_of-numbers-then-wall
shape_of-numbers-then-wall c = c.put_floor.ensures.numbers_long

pub returns-then-wall : goal.returns-then-wall
returns-then-wall c = by_floor _ c.if-wall.true c.put_floor.ensures

pub shape_of-cells : goal.shape_of-cells
shape_of-cells c = c.put_side.ensures.cells_long

pub shape_of-numbers : goal.shape_of-numbers
shape_of-numbers c = c.put_side.ensures.numbers_long

pub returns : goal.returns
returns c = by_side _ c.if-wall.false c.put_side.ensures
