-- `solid_boxes::boxes::put_boxes` meets its contract.
use native.Mathlib.Omega.{arith}
use Rattle.solid_faces.proofs.BodyLaws.{polygons_are}
use Rattle.solid_boxes.proofs.OwnLaws.{small_count}
use Rattle.solid_boxes.proofs.BoxLaws.{filled_tree, fill_step}
use Rattle.solid_boxes.proofs.boxes.put_boxes.Goals as goal

pub put_cell-requires-clause-fact_2 : goal.put_cell-requires-clause-fact_2
put_cell-requires-clause-fact_2 c = omega (arith, c.node_of-made.ensures.within, small_count _ c.requires.checked_1 _ c.requires.checked_3, c.requires.started_1.few)

pub loop-i-preserved : goal.loop-i-preserved
loop-i-preserved c = (fill_step _ _ _ c.args.boxes.now _ _ c.args.words.now _ _ _ _ _ c.loop-i-test.true (omega arith) c.loop-i.invariant.0 c.loop-i.invariant.1.0 c.requires.started_2 c.requires.started_3 c.loop-i.invariant.1.1.0 c.loop-i.invariant.1.1.1 c.node_of-made.ensures c.put_box.ensures c.put_cell.ensures.fact_1).1

pub returns-clause-part_tree : goal.returns-clause-part_tree
returns-clause-part_tree c = filled_tree _ _ _ _ _ _ (polygons_are _ _ c.requires.checked_3) (omega (arith, c.requires.started_2, c.loop-i.invariant.0)) (omega (arith, c.requires.started_3, c.loop-i.invariant.1.0)) c.loop-i.invariant.1.1.0 c.loop-i-test.false c.loop-i.invariant.1.1.1
