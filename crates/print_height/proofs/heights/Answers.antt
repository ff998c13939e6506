-- `print_height::heights` meets its contract: of the vertices that are passed.
use Rattle.print_height.proofs.HeightLaws.{checked_long, vertex_room, heights_none, heights_more, heights_all}
use native.Mathlib.Omega.{arith}
use Rattle.print_height.proofs.heights.Goals as goal

pub vertex_count-i-end-requires : goal.vertex_count-i-end-requires
vertex_count-i-end-requires c = checked_long _ c.requires

pub loop-i-init : goal.loop-i-init
loop-i-init c = heights_none _ _

pub corner-requires : goal.corner-requires
corner-requires c = let all = vertex_room _ _ _ c.requires c.vertex_count-i-end.ensures c.loop-i-test.true in record { fact_1 = all.0; fact_2 = all.1 }

pub loop-i-preserved : goal.loop-i-preserved
loop-i-preserved c = heights_more _ _ _ _ _ _ _ c.loop-i.invariant c.corner.ensures c.dot.ensures c.reach-e.ensures

pub returns : goal.returns
returns c = heights_all _ _ _ _ _ c.vertex_count-i-end.ensures (omega arith) c.loop-i-test.false c.loop-i.invariant
