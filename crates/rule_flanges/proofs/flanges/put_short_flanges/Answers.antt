-- `rule_flanges::flanges::put_short_flanges` meets its contract: the faults of the faces that are passed are put.
use mathlib.Core.Path.{refl, sym, ◌∙◌}
use Rattle.solid_tours.proofs.PlaceLaws.{few}
use Rattle.rule_flanges.proofs.FlangeLaws.{bends_none, bends_pass, bends_next, bends_all}
use Rattle.sheet_bends.proofs.BendLaws.{some_bend}
use native.Mathlib.Omega.{arith}
use Rattle.rule_flanges.proofs.flanges.put_short_flanges.Goals as goal

pub loop-face-init : goal.loop-face-init
loop-face-init c = (bends_none _ _ _ _ _, omega arith, refl)

pub bend_at-requires : goal.bend_at-requires
bend_at-requires c =
    record {
      fact_1 = c.requires.fact_1;
      fact_2 = omega (arith, c.loop-face-test.true, c.requires.fact_1.counted.faces);
    }

pub loop-face-preserved-in_default : goal.loop-face-preserved-in_default
loop-face-preserved-in_default c = (bends_pass _ _ _ (sym c.in_default.is ∙ c.bend_at.ensures) c.loop-face.invariant.0, omega (arith, c.loop-face.invariant.1), c.loop-face.invariant.2)

pub slice_bounds-flanges-end : goal.slice_bounds-flanges-end
slice_bounds-flanges-end c = sym c.loop-face.invariant.2

pub flanges-count-requires : goal.flanges-count-requires
flanges-count-requires c = let is = some_bend _ _ _ _ c.in-Some.ensures in
    record {
      sheet_stands_1 = c.requires.fact_1;
      sheet_stands_2 = omega (arith, c.loop-face-test.true, c.requires.fact_1.counted.faces);
      sheet_stands_3 = is.0;
      g_value_1 = is.1;
      g_value_2 = omega (arith, few _ _ _ _ c.requires.fact_1.ordered, c.loop-face.invariant.2);
    }

pub slice_bounds-put_legs-end : goal.slice_bounds-put_legs-end
slice_bounds-put_legs-end c = sym (c.flanges-count.ensures.long ∙ c.loop-face.invariant.2)

pub put_legs-k-requires : goal.put_legs-k-requires
put_legs-k-requires c =
    record {
      sheet_stands_1 = c.requires.fact_1;
      sheet_stands_2 = c.requires.fact_2;
      sheet_stands_3 = omega (arith, c.loop-face-test.true, c.requires.fact_1.counted.faces);
      legs_there_1 = c.flanges-count.ensures.there;
      legs_there_2 = omega (arith, c.flanges-count.ensures.few, few _ _ _ _ c.requires.fact_1.ordered, c.loop-face-test.true, c.requires.fact_1.counted.faces, c.loop-face.invariant.1, c.requires.fact_3);
    }

pub loop-face-preserved : goal.loop-face-preserved
loop-face-preserved c = (bends_next _ _ _ _ c.in-Some.ensures _ _ _ _ c.flanges-count.ensures c.loop-face.invariant.0 c.put_legs-k.ensures.fact_1, omega (arith, c.loop-face.invariant.1, c.put_legs-k.ensures.fact_2, c.flanges-count.ensures.few, few _ _ _ _ c.requires.fact_1.ordered), c.flanges-count.ensures.long ∙ c.loop-face.invariant.2)

pub shape_of-cells : goal.shape_of-cells
shape_of-cells c = c.loop-face.invariant.0.cells_kept.long

pub shape_of-numbers : goal.shape_of-numbers
shape_of-numbers c = c.loop-face.invariant.0.numbers_kept.long

pub returns : goal.returns
returns c =
    record {
      fact_1 = bends_all _ _ _ _ c.requires.fact_1.counted.faces (omega arith) c.loop-face-test.false c.loop-face.invariant.0;
      fact_2 = omega (arith, c.loop-face.invariant.1, c.requires.fact_1.counted.faces, few _ _ _ _ c.requires.fact_1.ordered);
    }
