-- `round_frame::extent::run_extent` meets its contract.
use Rattle.solid_polygon.proofs.CornerLaws.{readable_corner}
use Rattle.round_frame.proofs.RunLaws.{extent_none, extent_more, extent_all}
use Rattle.round_frame.proofs.extent.run_extent.Goals as goal

pub loop-k-init : goal.loop-k-init
loop-k-init c = extent_none _ _ _ _

pub corner-requires : goal.corner-requires
corner-requires c = let all = readable_corner _ _ _ _ c.requires c.loop-k-test.true in record { fact_1 = all.0; fact_2 = all.1 }

pub loop-k-preserved : goal.loop-k-preserved
loop-k-preserved c = extent_more _ _ _ _ _ _ _ _ _ c.loop-k.invariant c.corner.ensures c.height.ensures c.reach-e.ensures

pub returns : goal.returns
returns c = extent_all _ _ _ _ _ _ _ c.loop-k.auto.k-end c.loop-k-test.false c.loop-k.invariant
