-- `rule_corners::sharp::put_sharp` meets its contract.
use native.Mathlib.Omega.{arith}
use Rattle.rule_corners.proofs.SharpLaws.{sharp_none, sharp_one}
use Rattle.solid_faces.proofs.BodyLaws.{checked_faces}
use Rattle.rule_corners.proofs.sharp.put_sharp.Goals as goal

pub corner_of-c-requires : goal.corner_of-c-requires
corner_of-c-requires c =
    record {
      fact_1 = c.requires.fact_1;
      fact_2 = c.requires.fact_2.some;
      fact_3 = c.requires.fact_2.inside;
    }

pub is_reached-requires : goal.is_reached-requires
is_reached-requires c = c.requires.fact_1.standing

pub returns-then-is_reached : goal.returns-then-is_reached
returns-then-is_reached c =
    record {
      flaws_put = sharp_none _ _ _ _ c.requires.fact_1 c.requires.fact_2 _ _ c.corner_of-c.ensures c.is_reached.ensures _ _ c.if-is_reached.true;
      upper_bound = omega arith;
    }

pub overflow_cast-flaw : goal.overflow_cast-flaw
overflow_cast-flaw c = omega (arith, c.requires.fact_2.first_below, checked_faces _ c.requires.fact_1.standing.placed.checked)

pub overflow_cast-flaw-2 : goal.overflow_cast-flaw-2
overflow_cast-flaw-2 c = omega (arith, c.requires.fact_2.second_below, checked_faces _ c.requires.fact_1.standing.placed.checked)

pub put_flaw-requires : goal.put_flaw-requires
put_flaw-requires c = c.requires.fact_2.few

pub shape_of-cells : goal.shape_of-cells
shape_of-cells c = c.put_flaw.auto.cells

pub shape_of-numbers : goal.shape_of-numbers
shape_of-numbers c = c.put_flaw.auto.numbers

pub returns : goal.returns
returns c =
    record {
      flaws_put = sharp_one _ _ _ _ c.requires.fact_1 c.requires.fact_2 _ _ c.corner_of-c.ensures c.is_reached.ensures _ _ _ _ _ _ c.if-is_reached.false c.fillet_of.ensures c.put_flaw.ensures;
      upper_bound = omega (arith, c.put_flaw.ensures.count);
    }
