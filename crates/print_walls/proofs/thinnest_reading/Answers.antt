-- `print_walls::thinnest_reading` meets its contract.
use borrow.Author.Rules.{rules}
use native.Mathlib.Omega.{arith}
use lib.Ieee.{nan_bits}
use Rattle.wall_pairs.proofs.StepLaws.{order_long}
use Rattle.print_walls.proofs.ThinnestLaws.{thinnest_start, thinnest_more, thinnest_end}
use Rattle.print_walls.proofs.thinnest_reading.Goals as goal

pub sample_in_order-first-requires : goal.sample_in_order-first-requires
sample_in_order-first-requires c =
    record {
      fact_1 = c.requires.fact_1;
      fact_2 = omega (arith, c.requires.fact_2, c.requires.fact_3);
    }

pub float_from_bits-least : goal.float_from_bits-least
unfolding nan_bits
float_from_bits-least c = search rules

pub loop-j-init : goal.loop-j-init
loop-j-init c = thinnest_start _ _ _ _ _ _ c.sample_in_order-first.ensures c.is_stacked.ensures

pub sample_in_order-sample-requires : goal.sample_in_order-sample-requires
sample_in_order-sample-requires c =
    record {
      fact_1 = c.requires.fact_1;
      fact_2 = omega (arith, c.loop-j-test.true, c.requires.fact_3);
    }

pub loop-j-preserved : goal.loop-j-preserved
loop-j-preserved c = thinnest_more _ _ _ _ _ _ _ _ c.loop-j.auto.j (omega (arith, c.loop-j-test.true, c.requires.fact_3, order_long _ _ _ _ c.requires.fact_1)) c.loop-j.invariant c.sample_in_order-sample.ensures c.with_sample-least.ensures

pub returns : goal.returns
returns c = thinnest_end _ _ _ _ _ _ _ c.requires.fact_2 (omega (arith, c.requires.fact_3, order_long _ _ _ _ c.requires.fact_1)) (omega arith) c.loop-j-test.false c.loop-j.invariant
