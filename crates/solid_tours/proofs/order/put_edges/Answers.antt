-- `solid_tours::order::put_edges` meets its contract: the edges of the sides passed are kept.
use lib.Ieee.{nan}
use Rattle.list_laws.proofs.Outside.{outside_none}
use Rattle.solid_tours.proofs.PutLaws.{edges_none, still_standing, all_put}
use native.Mathlib.Omega.{arith}
use Rattle.solid_tours.proofs.order.put_edges.Goals as goal

pub loop-s-init : goal.loop-s-init
loop-s-init c = (edges_none _ _ _ _, outside_none 0 _ _ _, outside_none nan _ _ _)

pub put_edge-m-requires-clause-standing_1 : goal.put_edge-m-requires-clause-standing_1
put_edge-m-requires-clause-standing_1 c = still_standing _ _ _ _ _ _ _ c.requires.fact_1 (omega (arith, c.requires.fact_1.placed.laid)) c.loop-s.invariant.1 c.loop-s.invariant.2

pub returns : goal.returns
returns c = all_put _ _ _ _ _ _ _ _ c.requires.fact_1 (omega arith) c.loop-s-test.false c.loop-s.invariant.0 c.loop-s.invariant.1 c.loop-s.invariant.2
