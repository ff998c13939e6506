-- `solid_tours::boxes::put_box` meets its contract: one box more.
use Rattle.solid_tours.proofs.PlaceLaws.{most}
use Rattle.solid_tours.proofs.BoxLaws.{low_box, run_items, put_items, run_some, box_first, box_inside, box_one}
use native.Mathlib.Omega.{arith}
use Rattle.solid_tours.proofs.boxes.put_box.Goals as goal

pub overflow_mul-start : goal.overflow_mul-start
overflow_mul-start c = omega (arith, box_first _ _ _ _ c.requires.fact_1 _ (low_box _ _ _ _ c.requires.fact_2 c.requires.fact_3), most _ _ _ _ c.requires.fact_1, c.requires.fact_1.standing.placed.laid)

pub run_end-end-requires : goal.run_end-end-requires
run_end-end-requires c = omega (arith, box_first _ _ _ _ c.requires.fact_1 _ (low_box _ _ _ _ c.requires.fact_2 c.requires.fact_3), most _ _ _ _ c.requires.fact_1, c.requires.fact_1.standing.placed.laid)

pub box_of-r-requires : goal.box_of-r-requires
box_of-r-requires c =
    record {
      fact_1 = c.requires.fact_1.standing.placed.laid;
      fact_2 = c.requires.fact_1.standing.reals_room;
      fact_3 = run_some _ _ _ _ c.requires.fact_2 (box_first _ _ _ _ c.requires.fact_1 _ (low_box _ _ _ _ c.requires.fact_2 c.requires.fact_3)) c.run_end-end.ensures;
      fact_4 = omega (arith, c.run_end-end.ensures.inside, c.requires.fact_2, most _ _ _ _ c.requires.fact_1);
    }

pub overflow_mul-m : goal.overflow_mul-m
overflow_mul-m c = omega (arith, c.requires.fact_1.standing.placed.laid, c.requires.fact_1.standing.reals_room, most _ _ _ _ c.requires.fact_1, c.requires.fact_2, c.requires.fact_3)

pub overflow_add-at : goal.overflow_add-at
overflow_add-at c = omega (arith, c.requires.fact_1.standing.placed.laid, c.requires.fact_1.standing.reals_room, most _ _ _ _ c.requires.fact_1, c.requires.fact_2, c.requires.fact_3)

pub overflow_mul-b : goal.overflow_mul-b
overflow_mul-b c = omega (arith, box_first _ _ _ _ c.requires.fact_1 _ (low_box _ _ _ _ c.requires.fact_2 c.requires.fact_3), c.requires.fact_1.standing.placed.laid, c.requires.fact_1.standing.reals_room, most _ _ _ _ c.requires.fact_1, c.requires.fact_2, c.requires.fact_3)

pub overflow_add-at-2 : goal.overflow_add-at-2
overflow_add-at-2 c = omega (arith, box_first _ _ _ _ c.requires.fact_1 _ (low_box _ _ _ _ c.requires.fact_2 c.requires.fact_3), c.requires.fact_1.standing.placed.laid, c.requires.fact_1.standing.reals_room, most _ _ _ _ c.requires.fact_1, c.requires.fact_2, c.requires.fact_3)

pub put_reach-requires : goal.put_reach-requires
put_reach-requires c = omega (arith, c.requires.fact_2, box_inside _ _ _ _ c.requires.fact_1 _ (low_box _ _ _ _ c.requires.fact_2 c.requires.fact_3))

pub shape_of-reals : goal.shape_of-reals
shape_of-reals c = (box_one _ _ _ _ _ _ c.requires.fact_1 (low_box _ _ _ _ c.requires.fact_2 c.requires.fact_3) _ _ (run_items _ _ _ _ c.requires.fact_2 c.run_end-end.ensures) c.box_of-r.ensures (put_items c.args.at.free c.args.m _ c.args.b c.args.reals.now _ _ c.requires.fact_2 c.put_reach.ensures)).kept.long

pub returns : goal.returns
returns c = box_one _ _ _ _ _ _ c.requires.fact_1 (low_box _ _ _ _ c.requires.fact_2 c.requires.fact_3) _ _ (run_items _ _ _ _ c.requires.fact_2 c.run_end-end.ensures) c.box_of-r.ensures (put_items c.args.at.free c.args.m _ c.args.b c.args.reals.now _ _ c.requires.fact_2 c.put_reach.ensures)
