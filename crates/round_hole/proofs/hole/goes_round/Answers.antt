-- `round_hole::hole::goes_round` meets its contract.
use Rattle.round_hole.proofs.RoundLaws.{round_none, round_more, round_empty, round_fails, round_all}
use Rattle.round_hole.proofs.hole.goes_round.Goals as goal

pub returns-then-n-eq0 : goal.returns-then-n-eq0
returns-then-n-eq0 c = round_empty _ _ c.if-n-eq0.true

pub loop-k-init : goal.loop-k-init
loop-k-init c = round_none _ _

pub some_follows-requires : goal.some_follows-requires
some_follows-requires c =
    record {
      fact_1 = c.loop-k-test.true;
      fact_2 = c.requires;
    }

pub returns-then-not-some_follows : goal.returns-then-not-some_follows
returns-then-not-some_follows c = round_fails _ _ _ _ c.loop-k-test.true c.some_follows.ensures c.if-not-some_follows.true

pub loop-k-preserved : goal.loop-k-preserved
loop-k-preserved c = round_more _ _ _ _ c.some_follows.ensures c.if-not-some_follows.false c.loop-k.invariant

pub returns : goal.returns
returns c = round_all _ _ _ c.if-n-eq0.false c.loop-k.auto.k-end c.loop-k-test.false c.loop-k.invariant
