-- `solid_tours::boxes::put_boxes` meets its contract: the boxes passed are put.
use Rattle.solid_tours.proofs.PlaceLaws.{most}
use native.Mathlib.Omega.{arith}
use Rattle.solid_tours.proofs.boxes.put_boxes.Goals as goal

pub box_count-n-requires-clause-fact_1 : goal.box_count-n-requires-clause-fact_1
box_count-n-requires-clause-fact_1 c = omega (arith, c.requires.fact_2, most _ _ _ _ c.requires.fact_1)
