-- `solid_tours::tour::boxed_square` meets its contract: the runs passed are no nearer.
use Rattle.file_part.specs.Part.{part_of}
use Rattle.solid_tours.proofs.PlaceLaws.{most}
use Rattle.solid_tours.proofs.TourLaws.{order_long, least_start, least_join, least_stop}
use Rattle.solid_tours.proofs.BoxLaws.{count_items, run_on, run_less}
use native.Mathlib.Omega.{arith}
use Rattle.solid_tours.proofs.tour.boxed_square.Goals as goal

pub box_count-count-requires : goal.box_count-count-requires
box_count-count-requires c =
    record {
      fact_1 = omega (arith, c.requires.edges_ordered_1.standing.placed.laid, c.requires.edges_ordered_1.standing.reals_room, most _ _ _ _ c.requires.edges_ordered_1, c.requires.edges_ordered_2.items);
      fact_2 = omega (arith, c.requires.edges_ordered_1.standing.placed.laid);
    }

pub loop-j-init : goal.loop-j-init
loop-j-init c = (omega arith, c.requires.start_le_end_1, least_start (part_of c.args.file.now) c.args.p c.args.edges.at c.args.words.now c.args.least c.args.places.start)

pub overflow_mul-j : goal.overflow_mul-j
overflow_mul-j c = omega (arith, c.loop-j-test.true, c.requires.start_le_end_2, c.requires.edges_ordered_1.standing.placed.laid, c.requires.edges_ordered_1.standing.reals_room, most _ _ _ _ c.requires.edges_ordered_1, c.requires.edges_ordered_2.items)

pub run_end-stop-requires : goal.run_end-stop-requires
run_end-stop-requires c = omega (arith, c.loop-j-test.true, c.requires.start_le_end_2, c.requires.edges_ordered_1.standing.placed.laid, c.requires.edges_ordered_1.standing.reals_room, most _ _ _ _ c.requires.edges_ordered_1, c.requires.edges_ordered_2.items)

pub run_square-best-requires : goal.run_square-best-requires
run_square-best-requires c =
    record {
      edges_ordered_1 = c.requires.edges_ordered_1;
      edges_ordered_2 = c.requires.edges_ordered_2;
      edges_ordered_3 = count_items _ _ _ _ c.requires.edges_ordered_2.items c.box_count-count.ensures;
      start_le_end_1 = run_on _ _ _ c.loop-j-test.true c.run_end-stop.ensures;
      start_le_end_2 = omega (arith, c.run_end-stop.ensures.inside, c.requires.start_le_end_2);
      start_le_end_3 = c.run_end-stop.ensures.short;
    }

pub loop-j-smaller : goal.loop-j-smaller
loop-j-smaller c = run_less _ _ _ c.loop-j-test.true c.run_end-stop.ensures

pub loop-j-preserved : goal.loop-j-preserved
loop-j-preserved c = (omega (arith, c.loop-j.invariant.0, run_on _ _ _ c.loop-j-test.true c.run_end-stop.ensures), c.run_end-stop.ensures.inside, least_join (part_of c.args.file.now) c.args.p c.args.edges.at c.args.words.now c.args.least _ _ _ _ _ c.loop-j.invariant.0 (run_on _ _ _ c.loop-j-test.true c.run_end-stop.ensures) (omega (arith, c.run_end-stop.ensures.inside, c.requires.start_le_end_2, order_long _ _ _ _ c.requires.edges_ordered_1)) c.loop-j.invariant.2 c.run_square-best.ensures)

pub returns : goal.returns
returns c = least_stop (part_of c.args.file.now) c.args.p c.args.edges.at c.args.words.now c.args.least _ _ _ _ c.loop-j.invariant.1 c.loop-j-test.false c.loop-j.invariant.2
