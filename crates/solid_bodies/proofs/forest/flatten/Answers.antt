-- `solid_bodies::forest::flatten` meets its contract: a parent's label stands before it is asked.
use native.Mathlib.Omega.{arith}
use Rattle.solid_bodies.proofs.ForestLaws.{flat_more}
use Rattle.solid_bodies.proofs.forest.flatten.Goals as goal

pub loop-i-preserved : goal.loop-i-preserved
loop-i-preserved c = flat_more _ _ _ c.requires c.loop-i.invariant (omega arith)
