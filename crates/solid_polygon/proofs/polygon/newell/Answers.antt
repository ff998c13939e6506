-- `solid_polygon::polygon::newell` meets its contract.
use Prim.Native.Nat.{◌-◌}
use native.Mathlib.Omega.{arith}
use Rattle.file_part.specs.math.specs.Vector.{zero_vec}
use Rattle.solid_polygon.proofs.CornerLaws.{corner_zero, newell_none, newell_next, newell_last}
use Rattle.solid_polygon.proofs.polygon.newell.Goals as goal

pub loop-k-init : goal.loop-k-init
unfolding zero_vec
loop-k-init c = (corner_zero _ _ _ c.corner-start.ensures, newell_none _ _ _)

pub loop-k-preserved : goal.loop-k-preserved
loop-k-preserved c =
    newell_next _ _ _ _ _ _ _ _ c.loop-k.auto.k c.loop-k-test.true c.loop-k.invariant.0 c.loop-k.invariant.1 c.corner-b.ensures c.newell_step-n.ensures

pub returns : goal.returns
returns c =
    newell_last _ _ _ (c.loop-k.k - 1) _ _ _ _ (omega arith) (omega arith) c.loop-k.invariant.1 c.loop-k.invariant.0 c.corner-start.ensures
    c.newell_step.ensures
