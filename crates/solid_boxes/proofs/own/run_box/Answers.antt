-- `solid_boxes::own::run_box` meets its contract.
use native.Mathlib.Omega.{arith}
use Rattle.solid_boxes.proofs.OwnLaws.{hull_none, hull_more, hull_tidy, hull_all}
use Rattle.solid_boxes.proofs.own.run_box.Goals as goal

pub loop-k-init : goal.loop-k-init
loop-k-init c = hull_none _ _ _ c.corner-a.ensures

pub grow-b-requires : goal.grow-b-requires
grow-b-requires c =
    hull_tidy _ _ _ _ _ c.requires.fact_1 c.requires.fact_2 (omega arith) c.loop-k.invariant

pub loop-k-preserved : goal.loop-k-preserved
loop-k-preserved c = hull_more _ _ _ _ _ _ c.loop-k.invariant c.corner.ensures c.grow-b.ensures

pub returns : goal.returns
returns c = hull_all _ _ _ _ _ _ _ (omega arith) c.loop-k.invariant c.widen.ensures c.widen-2.ensures
