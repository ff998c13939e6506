-- `round_hole::hole::some_between` meets its contract.
use Rattle.round_hole.proofs.RoundLaws.{none_start, none_more, none_all, some_here}
use Rattle.round_hole.proofs.hole.some_between.Goals as goal

pub loop-i-init : goal.loop-i-init
loop-i-init c = none_start _ _ _

pub follows-requires : goal.follows-requires
follows-requires c =
    record {
      fact_1 = c.requires.fact_1;
      fact_2 = c.unpack.ensures.fact_2;
    }

pub returns-then-follows : goal.returns-then-follows
returns-then-follows c =
    some_here _ _ _ _ c.unpack.ensures.fact_1 _ c.follows.ensures _ _ c.loop-i.auto.i
    c.loop-i-test.true c.if-follows.true

pub loop-i-preserved : goal.loop-i-preserved
loop-i-preserved c = none_more _ _ _ _ c.unpack.ensures.fact_1 _ c.follows.ensures _ c.if-follows.false c.loop-i.invariant

pub returns : goal.returns
returns c = none_all _ _ _ _ _ c.loop-i-test.false c.loop-i.invariant
