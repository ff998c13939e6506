-- `num_root::bisect` meets its contract. The invariant: the root lies from lo up and below hi; the measure is the width of the interval.
use Rattle.std.proofs.Common.{◌-◌, ◌*◌, ◌^◌, ◌<◌, ◌≤◌, arith}
use Rattle.num_root.proofs.Squares.{at_most, ends_up, ends_down}
use Rattle.num_root.proofs.bisect.Goals as goal

pub loop-lo-init : goal.loop-lo-init
loop-lo-init c = omega arith

pub overflow_add-lo : goal.overflow_add-lo
overflow_add-lo c = omega arith

pub overflow_add-mid : goal.overflow_add-mid
overflow_add-mid c = omega arith

pub excess-requires : goal.excess-requires
excess-requires c = omega arith

pub loop-lo-smaller-then-excess-gt-FAR : goal.loop-lo-smaller-then-excess-gt-FAR
loop-lo-smaller-then-excess-gt-FAR c = omega arith

pub loop-lo-preserved-then-excess-gt-FAR : goal.loop-lo-preserved-then-excess-gt-FAR
loop-lo-preserved-then-excess-gt-FAR c = omega (arith, c.excess.ensures.negative c.if-excess-gt-FAR.true)

pub loop-lo-smaller : goal.loop-lo-smaller
loop-lo-smaller c = omega arith

pub loop-lo-preserved : goal.loop-lo-preserved
loop-lo-preserved c = omega (arith, at_most _ _ _ c.excess.ensures c.if-excess-gt-FAR.false)

pub excess-requires-2 : goal.excess-requires-2
excess-requires-2 c = omega arith

pub overflow_add-result : goal.overflow_add-result
overflow_add-result c = omega arith

pub returns-then-lo-excess : goal.returns-then-lo-excess
returns-then-lo-excess c =
    let i = c.loop-lo.invariant in
    ends_up _ _ _ _ c.excess-2.ensures i.0 i.1 (omega arith) (omega arith) c.if-lo-excess.true

pub returns-else-lo-excess : goal.returns-else-lo-excess
returns-else-lo-excess c =
    let i = c.loop-lo.invariant in
    ends_down _ _ _ _ c.excess-2.ensures i.0 i.1 (omega arith) (omega arith) (omega arith) c.if-lo-excess.false
