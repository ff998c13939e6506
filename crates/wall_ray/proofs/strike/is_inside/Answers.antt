-- `wall_ray::strike::is_inside` meets its contract.
use Rattle.list_laws.proofs.Below.{all_none}
use Rattle.wall_ray.proofs.StruckLaws.{sides_more, side_fails, sides_all}
use Rattle.wall_ray.proofs.strike.is_inside.Goals as goal

pub loop-k-init : goal.loop-k-init
loop-k-init c = all_none _

pub is_within-requires : goal.is_within-requires
is_within-requires c =
    record {
      fact_1 = c.requires;
      fact_2 = c.loop-k-test.true;
    }

pub returns-then-not-is_within : goal.returns-then-not-is_within
returns-then-not-is_within c = side_fails _ _ _ _ _ _ c.loop-k-test.true c.is_within.ensures c.if-not-is_within.true

pub loop-k-preserved : goal.loop-k-preserved
loop-k-preserved c = sides_more _ _ _ _ _ _ c.loop-k.invariant c.is_within.ensures c.if-not-is_within.false

pub returns : goal.returns
returns c = sides_all _ _ _ _ _ c.loop-k.auto.k-end c.loop-k-test.false c.loop-k.invariant
