-- `solid_boxes::starts::put_one` meets its contract.
use mathlib.Core.Path.{◌∙◌}
use native.Mathlib.Omega.{arith}
use Rattle.solid_boxes.proofs.StartLaws.{started_one}
use Rattle.solid_boxes.proofs.starts.put_one.Goals as goal

pub put_cell-requires : goal.put_cell-requires
put_cell-requires c =
    record {
      fact_1 = omega (arith, c.requires.fact_2, c.requires.fact_3);
      fact_2 = omega arith;
    }

pub put_cell-requires-2 : goal.put_cell-requires-2
put_cell-requires-2 c =
    record {
      fact_1 = omega (arith, c.requires.fact_2, c.requires.fact_3, c.put_cell.ensures.fact_2);
      fact_2 = omega arith;
    }

pub shape_of-words : goal.shape_of-words
shape_of-words c = c.put_cell-2.ensures.fact_2 ∙ c.put_cell.ensures.fact_2

pub returns : goal.returns
returns c =
    record {
      fact_1 = started_one _ _ _ _ c.requires.fact_1 c.requires.fact_2 c.requires.fact_3 c.put_cell.ensures.fact_1 c.put_cell-2.ensures.fact_1;
      fact_2 = c.put_cell-2.ensures.fact_2 ∙ c.put_cell.ensures.fact_2;
    }
