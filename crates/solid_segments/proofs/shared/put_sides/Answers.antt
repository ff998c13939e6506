-- `solid_segments::shared::put_sides` meets its contract.
use native.Mathlib.Omega.{arith}
use Rattle.solid_segments.proofs.PlaceLaws.{placed_first, placed_all}
use Rattle.solid_segments.proofs.shared.put_sides.Goals as goal

pub loop-p-init : goal.loop-p-init
loop-p-init c = placed_first _ _

pub returns : goal.returns
returns c = placed_all c.requires.fact_1 c.loop-p.p (omega arith) c.loop-p.mem c.loop-p.invariant
