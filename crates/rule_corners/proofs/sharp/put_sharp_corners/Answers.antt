-- `rule_corners::sharp::put_sharp_corners` meets its contract: the faults of the faces passed are put.
use native.Mathlib.Omega.{arith}
use Rattle.rule_corners.proofs.SharpLaws.{sharp_start, sharp_more, sharp_end}
use Rattle.rule_corners.proofs.WalkLaws.{most}
use Rattle.rule_corners.proofs.sharp.put_sharp_corners.Goals as goal

pub loop-i-init : goal.loop-i-init
loop-i-init c = (omega arith, omega arith, sharp_start _ _ _ _)

pub next_corner-next-requires : goal.next_corner-next-requires
next_corner-next-requires c =
    record {
      fact_1 = c.requires.fact_1;
      fact_2 = c.requires.fact_2;
      fact_3 = c.loop-i-test.true;
    }

pub put_sharp-k-requires : goal.put_sharp-k-requires
put_sharp-k-requires c =
    record {
      fact_1 = c.requires.fact_1;
      fact_2 = record { first_below = c.next_corner-next.ensures.first_below; second_below = c.next_corner-next.ensures.second_below; some = c.next_corner-next.ensures.run.more; inside = c.next_corner-next.ensures.run.inside; few = omega (arith, c.loop-i.invariant, c.requires.fact_3, most _ _ _ _ c.requires.fact_1, c.requires.fact_1.standing.placed.laid, c.requires.fact_2.corners) };
    }

pub loop-i-smaller : goal.loop-i-smaller
loop-i-smaller c = omega (arith, c.next_corner-next.ensures.run.more, c.next_corner-next.ensures.run.inside, c.requires.fact_2.corners)

pub loop-i-preserved : goal.loop-i-preserved
loop-i-preserved c = (omega (arith, c.next_corner-next.ensures.run.inside, c.requires.fact_2.corners), omega (arith, c.loop-i.invariant.1, c.put_sharp-k.ensures.upper_bound, c.next_corner-next.ensures.run.more), sharp_more _ _ _ _ c.requires.fact_1 _ _ _ _ _ _ _ _ _ _ _ c.next_corner-next.ensures c.loop-i.invariant.2 c.put_sharp-k.ensures.flaws_put)

pub shape_of-cells : goal.shape_of-cells
shape_of-cells c = c.loop-i.invariant.2.put.cells_kept.long

pub shape_of-numbers : goal.shape_of-numbers
shape_of-numbers c = c.loop-i.invariant.2.put.numbers_kept.long

pub returns : goal.returns
returns c =
    record {
      flaws_put = sharp_end _ _ _ _ c.requires.fact_1 _ _ _ _ _ _ _ (omega (arith, c.loop-i-test.false, c.requires.fact_2.corners)) c.loop-i.invariant.2;
      upper_bound = omega (arith, c.loop-i.invariant);
    }
