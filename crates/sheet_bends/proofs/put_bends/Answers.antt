-- `sheet_bends::put_bends` meets its contract: the bends of the faces that are passed are put.
use mathlib.Core.Path.{sym, ◌∙◌}
use Rattle.sheet_bends.proofs.BendLaws.{order_standing, order_rounds, outside_below}
use Rattle.sheet_bends.proofs.StepLaws.{few, cleared_kept, bends_none, bends_skip, bends_more, bends_all, count_none, count_skip, count_more, count_few}
use native.Mathlib.Omega.{arith}
use Rattle.sheet_bends.proofs.put_bends.Goals as goal

pub loop-f-init : goal.loop-f-init
loop-f-init c = (bends_none _ _ _ _ c.requires.fact_1 _ c.fill.ensures _, count_none _ _)

pub bend_of-requires : goal.bend_of-requires
bend_of-requires c = let g = order_standing _ _ _ _ _ c.requires.fact_1 (cleared_kept _ _ _ _ c.requires.fact_1 _ c.fill.ensures) in
    record {
      standing_1 = order_standing _ _ _ _ _ g c.loop-f.invariant.0.kept;
      standing_2 = order_rounds _ _ _ _ _ g c.loop-f.invariant.0.kept (order_rounds _ _ _ _ _ c.requires.fact_1 (cleared_kept _ _ _ _ c.requires.fact_1 _ c.fill.ensures) c.requires.fact_2);
      standing_3 = c.requires.fact_3;
      f_lt_n = c.loop-f-test.true;
    }

pub loop-f-preserved-in_default : goal.loop-f-preserved-in_default
loop-f-preserved-in_default c =
    let g = order_standing _ _ _ _ _ c.requires.fact_1 (cleared_kept _ _ _ _ c.requires.fact_1 _ c.fill.ensures) in
    let none = sym c.in_default.is ∙ c.bend_of.ensures in
    (bends_skip _ _ _ _ g _ _ _ (omega (arith, c.loop-f-test.true, c.requires.fact_3)) c.loop-f.invariant.0 none, count_skip _ _ _ _ none c.loop-f.invariant.1)

pub put_bend-requires : goal.put_bend-requires
put_bend-requires c = let g = order_standing _ _ _ _ _ c.requires.fact_1 (cleared_kept _ _ _ _ c.requires.fact_1 _ c.fill.ensures) in
    record {
      laid_1 = g.placed.laid;
      laid_2 = omega (arith, g.words_room, c.loop-f.invariant.0.kept.long);
      f_lt_polygons_1 = omega (arith, c.loop-f-test.true, c.requires.fact_3, few _ _ _ _ c.requires.fact_1);
      f_lt_polygons_2 = omega (arith, outside_below _ _ _ _ c.in-Some.ensures, few _ _ _ _ c.requires.fact_1);
    }

pub overflow_add-count : goal.overflow_add-count
overflow_add-count c = omega (arith, count_few _ _ _ _ c.loop-f.invariant.1, c.loop-f-test.true, c.requires.fact_3, few _ _ _ _ c.requires.fact_1, c.requires.fact_1.placed.laid)

pub loop-f-preserved : goal.loop-f-preserved
loop-f-preserved c = let g = order_standing _ _ _ _ _ c.requires.fact_1 (cleared_kept _ _ _ _ c.requires.fact_1 _ c.fill.ensures) in
    (bends_more _ _ _ _ g _ _ _ (omega (arith, c.loop-f-test.true, c.requires.fact_3)) c.loop-f.invariant.0 _ c.in-Some.ensures _ c.put_bend.ensures, count_more _ _ _ _ _ c.in-Some.ensures c.loop-f.invariant.1)

pub returns : goal.returns
returns c = bends_all _ _ _ _ _ _ _ _ _ c.requires.fact_3 (omega arith) c.loop-f-test.false (cleared_kept _ _ _ _ c.requires.fact_1 _ c.fill.ensures) c.loop-f.invariant.0 c.loop-f.invariant.1
