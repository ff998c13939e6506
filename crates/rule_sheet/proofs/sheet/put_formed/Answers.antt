-- `rule_sheet::sheet::put_formed` meets its contract: by what is measured.
use mathlib.Core.Path.{◌∙◌}
use mathlib.Core.Path.{refl}
use Rattle.rule_sheet.proofs.SheetLaws.{formed_none, ordered_then, readings_then, rounds_then, words_uneven, cells_uneven, numbers_uneven, formed_uneven, sheet_there, thick_bounds, words_sheet, formed_sheet}
use native.Mathlib.Omega.{arith}
use Rattle.rule_sheet.proofs.sheet.put_formed.Goals as goal

pub make_ready-ready-requires : goal.make_ready-ready-requires
make_ready-ready-requires c =
    record {
      fact_1 = c.requires.standing_1;
      fact_2 = c.requires.standing_2;
      fact_3 = c.requires.faces_value_1;
      fact_4 = c.requires.faces_value_4;
    }

pub measure-requires : goal.measure-requires
measure-requires c =
    record {
      edges_ordered_1 = c.make_ready-ready.ensures.ordered;
      edges_ordered_2 = c.make_ready-ready.ensures.readings;
      counted_1 = record { faces = c.requires.faces_value_1; items = c.make_ready-ready.ensures.items_are };
      counted_2 = c.make_ready-ready.ensures.readings_are;
    }

pub returns-in_default : goal.returns-in_default
returns-in_default c = formed_none _ _ _ _ _ _ _ _ _ _ _ c.requires.standing_1 c.requires.faces_value_1 c.make_ready-ready.ensures c.measure.ensures c.requires.faces_value_3 _ c.in_default.is _ c.none.ensures

pub put_off_faces-requires : goal.put_off_faces-requires
put_off_faces-requires c =
    record {
      standing_1 = (ordered_then _ _ _ _ _ _ _ _ _ _ _ c.requires.standing_1 c.requires.faces_value_1 c.make_ready-ready.ensures c.in-Ok.ensures).standing;
      standing_2 = readings_then _ _ _ _ _ _ _ _ _ _ _ c.requires.standing_1 c.requires.faces_value_1 c.make_ready-ready.ensures c.in-Ok.ensures;
      standing_3 = c.in-Ok.ensures.distances;
      counted_1 = record { faces = c.requires.faces_value_1; readings = c.make_ready-ready.ensures.readings_are };
      counted_2 = (c.in-Ok.ensures.some _ refl).limit;
      counted_3 = (c.in-Ok.ensures.some _ refl).value;
    }

pub put_uneven-requires : goal.put_uneven-requires
put_uneven-requires c = omega (arith, c.requires.faces_value_3)

pub shape_of-words-then-found : goal.shape_of-words-then-found
shape_of-words-then-found c = (words_uneven _ _ _ _ _ _ _ _ _ _ _ c.requires.standing_1 c.requires.faces_value_1 c.make_ready-ready.ensures c.in-Ok.ensures _ (c.in-Ok.ensures.some _ refl) _ c.if-found.true c.put_off_faces.ensures.fact_1 c.put_off_faces.ensures.fact_2).long

pub shape_of-reals-then-found : goal.shape_of-reals-then-found
shape_of-reals-then-found c = c.in-Ok.ensures.reals_kept.long ∙ c.make_ready-ready.ensures.reals_kept.long

pub shape_of-cells-then-found : goal.shape_of-cells-then-found
shape_of-cells-then-found c = cells_uneven _ _ _ _ _ _ _ _ _ _ _ c.requires.standing_1 c.requires.faces_value_1 c.make_ready-ready.ensures c.in-Ok.ensures _ (c.in-Ok.ensures.some _ refl) _ c.if-found.true c.put_off_faces.ensures.fact_1 c.put_off_faces.ensures.fact_2 c.requires.faces_value_2 c.put_uneven.ensures

pub shape_of-numbers-then-found : goal.shape_of-numbers-then-found
shape_of-numbers-then-found c = numbers_uneven _ _ _ _ _ _ _ _ _ _ _ c.requires.standing_1 c.requires.faces_value_1 c.make_ready-ready.ensures c.in-Ok.ensures _ (c.in-Ok.ensures.some _ refl) _ c.if-found.true c.put_off_faces.ensures.fact_1 c.put_off_faces.ensures.fact_2 c.requires.faces_value_2 c.put_uneven.ensures

pub returns-then-found : goal.returns-then-found
returns-then-found c = formed_uneven _ _ _ _ _ _ _ _ _ _ _ c.requires.standing_1 c.requires.faces_value_1 c.make_ready-ready.ensures c.in-Ok.ensures _ (c.in-Ok.ensures.some _ refl) _ c.if-found.true c.put_off_faces.ensures.fact_1 c.put_off_faces.ensures.fact_2 c.requires.faces_value_3 c.requires.faces_value_2 c.put_uneven.ensures _ c.none-then-found.ensures

pub put_bends-bends-requires : goal.put_bends-bends-requires
put_bends-bends-requires c =
    record {
      fact_1 = (ordered_then _ _ _ _ _ _ _ _ _ _ _ c.requires.standing_1 c.requires.faces_value_1 c.make_ready-ready.ensures c.in-Ok.ensures).standing;
      fact_2 = rounds_then _ _ _ _ _ _ _ _ _ _ _ c.requires.standing_1 c.requires.faces_value_1 c.make_ready-ready.ensures c.in-Ok.ensures;
      fact_3 = c.requires.faces_value_1;
    }

pub put_bent-requires : goal.put_bent-requires
put_bent-requires c =
    record {
      fact_1 = sheet_there _ _ _ _ _ _ _ _ _ _ _ c.requires.standing_1 c.requires.faces_value_1 c.make_ready-ready.ensures c.in-Ok.ensures _ (c.in-Ok.ensures.some _ refl) _ _ c.if-found.false c.put_bends-bends.ensures;
      fact_2 = thick_bounds _ _ _ _ _ _ _ _ _ _ _ c.requires.standing_1 c.requires.faces_value_1 c.make_ready-ready.ensures c.in-Ok.ensures _ (c.in-Ok.ensures.some _ refl);
      fact_3 = c.requires.faces_value_3;
    }

pub shape_of-words : goal.shape_of-words
shape_of-words c = (words_sheet _ _ _ _ _ _ _ _ _ _ _ c.requires.standing_1 c.requires.faces_value_1 c.make_ready-ready.ensures c.in-Ok.ensures _ (c.in-Ok.ensures.some _ refl) _ _ c.if-found.false c.put_bends-bends.ensures).long

pub shape_of-reals : goal.shape_of-reals
shape_of-reals c = c.in-Ok.ensures.reals_kept.long ∙ c.make_ready-ready.ensures.reals_kept.long

pub shape_of-cells : goal.shape_of-cells
shape_of-cells c = c.put_bent.ensures.fact_1.cells_kept.long

pub shape_of-numbers : goal.shape_of-numbers
shape_of-numbers c = c.put_bent.ensures.fact_1.numbers_kept.long

pub returns : goal.returns
returns c = formed_sheet _ _ _ _ _ _ _ _ _ _ _ c.requires.standing_1 c.requires.faces_value_1 c.make_ready-ready.ensures c.in-Ok.ensures _ (c.in-Ok.ensures.some _ refl) _ _ c.if-found.false c.put_bends-bends.ensures c.put_bent.ensures.fact_1 c.put_bent.ensures.fact_2 _ c.sheet.ensures
