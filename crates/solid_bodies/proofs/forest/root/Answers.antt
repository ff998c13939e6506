-- `solid_bodies::forest::root` meets its contract: the walk falls.
use Prim.Native.Nat.{◌≤◌, ◌<◌}
use native.Mathlib.Omega.{arith}
use mathlib.Core.Path.{refl}
use lib.ListN.{get_or, length-set}
use Rattle.solid_bodies.proofs.ForestLaws.{walk_start, walk_step, up_below, over_low}
use Rattle.solid_bodies.proofs.forest.root.Goals as goal

pub loop-up-init : goal.loop-up-init
loop-up-init c = (walk_start _ _ c.requires.fact_2, omega arith, refl)

pub loop-up-preserved : goal.loop-up-preserved
loop-up-preserved c =
    let up_lt : c.loop-up.up < c.loop-up.at = up_below _ _ _ _ _ c.loop-up.invariant.0 c.loop-up.invariant.1 c.loop-up.invariant.2 c.loop-up-test.true in
    let at-le : get_or c.loop-up.parents c.loop-up.up 0 ≤ c.loop-up.up = over_low _ _ _ _ _ c.loop-up.invariant.0 c.loop-up.invariant.1 c.loop-up.invariant.2 c.loop-up-test.true _ refl in (
      walk_step _ _ _ _ _ c.loop-up.invariant.0 c.loop-up.invariant.1 c.loop-up.invariant.2 c.loop-up-test.true _ refl,
      simp length-set (omega (arith, at-le, up_lt)),
      refl,
    )
