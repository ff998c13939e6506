-- `solid_boxes::boxes::leaf_box` meets its contract.
use native.Mathlib.Omega.{arith}
use Rattle.solid_boxes.proofs.BoxLaws.{cover_one, cover_more}
use Rattle.solid_boxes.proofs.boxes.leaf_box.Goals as goal

pub loop-x-init : goal.loop-x-init
loop-x-init c = cover_one _ c.requires.checked_1 _ _ _ _ c.cell.ensures c.own_box-b.ensures (omega (arith, c.requires.a_lt_e_1, c.requires.a_lt_e_2)) c.requires.checked_3

pub loop-x-preserved : goal.loop-x-preserved
loop-x-preserved c = cover_more _ c.requires.checked_1 _ _ _ _ _ _ _ c.loop-x.invariant c.cell-in-loop-x.ensures c.own_box.ensures (omega (arith, c.loop-x-test.true, c.requires.a_lt_e_2)) c.requires.checked_3 c.join-b.ensures
