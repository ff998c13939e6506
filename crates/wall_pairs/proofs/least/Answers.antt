-- `wall_pairs::least` meets its contract.
use borrow.Author.Rules.{rules}
use native.Mathlib.Omega.{arith}
use lib.Ieee.{nan_bits}
use Rattle.wall_pairs.specs.Work.{reading_order}
use Rattle.wall_pairs.proofs.WallLaws.{least_none, least_more, least_end}
use Rattle.wall_pairs.proofs.StepLaws.{order_long}
use Rattle.wall_pairs.proofs.least.Goals as goal

pub float_from_bits-infinity : goal.float_from_bits-infinity
unfolding nan_bits
float_from_bits-infinity c = search rules

pub loop-j-init : goal.loop-j-init
loop-j-init c = least_none _ (reading_order c.args.at c.args.words.now) c.args.i

pub loop-j-preserved : goal.loop-j-preserved
loop-j-preserved c =
    let h = c.requires in
    least_more _ _ _ _ _ _ _ c.loop-j.auto.j (omega (arith, c.loop-j-test.true, h.fact_3, order_long _ _ _ _ h.fact_1)) c.loop-j.invariant c.thickness_at.ensures c.min-x.ensures

pub returns : goal.returns
returns c = least_end _ _ _ _ _ _ (c.loop-j.auto.j-end c.requires.fact_2) c.loop-j-test.false c.loop-j.invariant
