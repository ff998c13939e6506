-- `solid_tours::tour::least_square` meets its contract: the edges passed are no nearer.
use Rattle.file_part.specs.Part.{part_of}
use Rattle.solid_tours.proofs.PackLaws.{packed_inside}
use Rattle.solid_tours.proofs.TourLaws.{order_long, least_start, least_next}
use native.Mathlib.Omega.{arith}
use Rattle.solid_tours.proofs.tour.least_square.Goals as goal

pub loop-j-init : goal.loop-j-init
loop-j-init c = least_start (part_of c.args.file.now) c.args.p c.args.at c.args.words.now c.args.least c.args.places.start

pub nearer-best-requires : goal.nearer-best-requires
nearer-best-requires c = packed_inside _ _ _ _ c.requires.fact_1 _ (omega (arith, c.loop-j-test.true, c.requires.fact_3))

pub loop-j-preserved : goal.loop-j-preserved
loop-j-preserved c = least_next (part_of c.args.file.now) c.args.p c.args.at c.args.words.now c.args.least _ _ _ _ _ (omega arith) (omega (arith, c.loop-j-test.true, c.requires.fact_3, order_long _ _ _ _ c.requires.fact_1)) c.loop-j.invariant (c.requires.fact_1.packed _ (omega (arith, c.loop-j-test.true, c.requires.fact_3))) c.nearer-best.ensures
