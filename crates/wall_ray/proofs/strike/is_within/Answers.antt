-- `wall_ray::strike::is_within` meets its contract.
use native.Mathlib.Omega.{arith}
use Rattle.solid_polygon.specs.Work.{corner_at}
use Rattle.wall_ray.specs.Strike.{is_within}
use Rattle.wall_ray.proofs.strike.is_within.Goals as goal

pub corner-a-requires : goal.corner-a-requires
corner-a-requires c =
    record {
      fact_1 = omega (arith, c.requires.fact_1.inside, c.requires.fact_2);
      fact_2 = c.requires.fact_1.each _ c.requires.fact_2;
    }

pub next-requires : goal.next-requires
next-requires c = c.requires.fact_2

pub corner-b-requires : goal.corner-b-requires
corner-b-requires c =
    record {
      fact_1 = omega (arith, c.requires.fact_1.inside, c.next.ensures.fact_2);
      fact_2 = c.requires.fact_1.each _ c.next.ensures.fact_2;
    }

pub returns : goal.returns
unfolding is_within corner_at
returns c = cc
