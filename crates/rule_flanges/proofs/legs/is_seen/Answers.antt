-- `rule_flanges::legs::is_seen` meets its contract: no leg that is passed is along.
use mathlib.Core.Path.{sym}
use Rattle.rule_flanges.proofs.LegLaws.{along_by, seen_none, seen_more, seen_all, seen_found, leg_there}
use native.Mathlib.Omega.{arith}
use Rattle.rule_flanges.proofs.legs.is_seen.Goals as goal

pub face_normal-normal-requires : goal.face_normal-normal-requires
face_normal-normal-requires c =
    record {
      fact_1 = c.requires.fact_1;
      fact_2 = c.requires.fact_3;
    }

pub loop-i-init : goal.loop-i-init
loop-i-init c = seen_none _ _ _

pub leg_at-leg-requires : goal.leg_at-leg-requires
leg_at-leg-requires c = omega (arith, c.loop-i-test.true, c.requires.fact_2.room)

pub face_normal-other-requires : goal.face_normal-other-requires
face_normal-other-requires c =
    record {
      fact_1 = c.requires.fact_1;
      fact_2 = (leg_there _ _ _ _ _ c.requires.fact_2 c.loop-i-test.true c.leg_at-leg.ensures).face;
    }

pub returns-then-abs : goal.returns-then-abs
returns-then-abs c = sym (seen_found _ _ _ c.loop-i.i c.args.n c.loop-i-test.true (along_by _ _ _ _ _ _ _ _ _ _ c.leg_at-leg.ensures c.face_normal-other.ensures c.face_normal-normal.ensures c.dot.ensures c.abs.ensures c.if-abs.true))

pub loop-i-preserved : goal.loop-i-preserved
loop-i-preserved c = seen_more _ _ _ c.loop-i.i c.loop-i.invariant (along_by _ _ _ _ _ _ _ _ _ _ c.leg_at-leg.ensures c.face_normal-other.ensures c.face_normal-normal.ensures c.dot.ensures c.abs.ensures c.if-abs.false)

pub returns : goal.returns
returns c = seen_all _ _ _ _ _ (omega arith) c.loop-i-test.false c.loop-i.invariant
