-- `rule_corners::corner::side_at` meets its contract: the item at a place, and its side.
use native.Mathlib.Omega.{arith}
use Rattle.rule_corners.proofs.WalkLaws.{most, place_room, item_room, side_is}
use Rattle.rule_corners.proofs.corner.side_at.Goals as goal

pub overflow_add-sorted : goal.overflow_add-sorted
overflow_add-sorted c = omega (arith, place_room _ _ _ _ c.requires.fact_1 _ c.requires.fact_2, c.requires.fact_1.standing.placed.laid, most _ _ _ _ c.requires.fact_1, c.requires.fact_2)

pub cell-requires : goal.cell-requires
cell-requires c = place_room _ _ _ _ c.requires.fact_1 _ c.requires.fact_2

pub overflow_add-items : goal.overflow_add-items
overflow_add-items c = omega (arith, item_room _ _ _ _ c.requires.fact_1 _ _ c.requires.fact_2 c.cell.ensures, c.requires.fact_1.standing.placed.laid)

pub cell-requires-2 : goal.cell-requires-2
cell-requires-2 c = item_room _ _ _ _ c.requires.fact_1 _ _ c.requires.fact_2 c.cell.ensures

pub returns : goal.returns
returns c = side_is _ _ _ _ c.requires.fact_1 _ _ _ c.requires.fact_2 c.cell.ensures c.cell-2.ensures
