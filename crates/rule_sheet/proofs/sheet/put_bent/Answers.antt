-- `rule_sheet::sheet::put_bent` meets its contract: one rule after the other.
use mathlib.Core.Path.{◌∙◌}
use Rattle.rule_sheet.proofs.SheetLaws.{bent_put}
use native.Mathlib.Omega.{arith}
use Rattle.rule_sheet.proofs.sheet.put_bent.Goals as goal

pub put_tight_bends-a-requires : goal.put_tight_bends-a-requires
put_tight_bends-a-requires c =
    record {
      fact_1 = c.requires.fact_1;
      fact_2 = c.requires.fact_2;
      fact_3 = c.requires.fact_3;
    }

pub put_short_flanges-b-requires : goal.put_short_flanges-b-requires
put_short_flanges-b-requires c =
    record {
      fact_1 = c.requires.fact_1;
      fact_2 = c.requires.fact_2;
      fact_3 = omega (arith, c.requires.fact_3, c.put_tight_bends-a.ensures.fact_2);
    }

pub put_holes-requires : goal.put_holes-requires
put_holes-requires c =
    record {
      fact_1 = c.requires.fact_1;
      fact_2 = c.requires.fact_2;
      fact_3 = omega (arith, c.requires.fact_3, c.put_tight_bends-a.ensures.fact_2, c.put_short_flanges-b.ensures.fact_2);
    }

pub shape_of-cells : goal.shape_of-cells
shape_of-cells c = c.put_holes.ensures.fact_1.cells_kept.long ∙ c.put_short_flanges-b.ensures.fact_1.cells_kept.long ∙ c.put_tight_bends-a.ensures.fact_1.cells_kept.long

pub shape_of-numbers : goal.shape_of-numbers
shape_of-numbers c = c.put_holes.ensures.fact_1.numbers_kept.long ∙ c.put_short_flanges-b.ensures.fact_1.numbers_kept.long ∙ c.put_tight_bends-a.ensures.fact_1.numbers_kept.long

pub returns : goal.returns
returns c =
    record {
      fact_1 = bent_put _ _ c.put_tight_bends-a.ensures.fact_1 c.put_short_flanges-b.ensures.fact_1 c.put_holes.ensures.fact_1;
      fact_2 = omega (arith, c.requires.fact_3, c.put_tight_bends-a.ensures.fact_2, c.put_short_flanges-b.ensures.fact_2, c.put_holes.ensures.fact_2);
    }
