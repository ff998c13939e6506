-- `round_hole::hole::some_follows` meets its contract.
use Prim.Native.Nat.{◌*◌, ◌≤◌}
use native.Mathlib.Omega.{arith}
use Rattle.round_hole.proofs.RoundLaws.{followed_near, followed_all}
use Rattle.round_hole.proofs.hole.some_follows.Goals as goal

pub loop-w-init : goal.loop-w-init
loop-w-init c = omega arith

pub some_near-requires : goal.some_near-requires
some_near-requires c =
    let few : c.loop-w.w * 4 ≤ c.args.n = omega (arith, c.loop-w-test.true) in
    record {
      fact_1 = c.unpack-a.ensures.fact_2;
      fact_2 = c.requires.fact_2;
      fact_3 = c.requires.fact_1;
      fact_4 = omega (arith, few);
    }

pub returns-then-some_near : goal.returns-then-some_near
returns-then-some_near c =
    followed_near _ _ _ c.unpack-a.ensures.fact_1 _ _ c.some_near.ensures c.if-some_near.true

pub overflow_mul-w : goal.overflow_mul-w
overflow_mul-w c =
    let few : c.loop-w.w * 4 ≤ c.args.n = omega (arith, c.loop-w-test.true) in omega (arith, few)

pub loop-w-smaller : goal.loop-w-smaller
loop-w-smaller c =
    let few : c.loop-w.w * 4 ≤ c.args.n = omega (arith, c.loop-w-test.true) in omega (arith, few, c.loop-w.invariant)

pub loop-w-preserved : goal.loop-w-preserved
loop-w-preserved c = omega (arith, c.loop-w.invariant)

pub returns : goal.returns
returns c = followed_all _ _ _ c.unpack-a.ensures.fact_1 _ _ c.some_between.ensures
