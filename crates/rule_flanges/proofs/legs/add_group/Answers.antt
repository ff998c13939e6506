-- `rule_flanges::legs::add_group` meets its contract: one leg or none, with the first segment of the group.
use mathlib.Core.Path.{sym, ◌∙◌, ap}
use Rattle.solid_tours.proofs.PackLaws.{edges_sorted}
use Rattle.rule_flanges.proofs.LegLaws.{not_true, not_false, group_none, group_one}
use Rattle.rule_flanges.proofs.WalkLaws.{first_line}
use native.Mathlib.Omega.{arith}
use mathlib.Core.Bool.{not}
use Rattle.rule_flanges.proofs.legs.add_group.Goals as goal

pub runs_on-requires : goal.runs_on-requires
runs_on-requires c =
    record {
      fact_1 = c.requires.sheet_stands_1;
      fact_2 = c.requires.sheet_stands_2.other_below;
    }

pub returns-then-not-runs_on : goal.returns-then-not-runs_on
returns-then-not-runs_on c = group_none _ _ _ c.requires.face_value_2 _ _ _ _ _ (sym c.runs_on.ensures ∙ not_true _ (ap not c.if-not-runs_on.true))

pub item_at-requires : goal.item_at-requires
item_at-requires c =
    record {
      fact_1 = edges_sorted _ _ _ c.requires.sheet_stands_1.ordered;
      fact_2 = omega (arith, c.requires.sheet_stands_2.some, c.requires.sheet_stands_2.inside);
    }

pub add_leg-requires : goal.add_leg-requires
add_leg-requires c =
    record {
      fact_1 = c.requires.sheet_stands_1.ordered.standing;
      fact_2 = c.requires.face_value_2;
      fact_3 = record { bend = c.requires.sheet_stands_2.face_below; round = c.requires.face_value_1; face = c.requires.sheet_stands_2.other_below; line = c.item_at.ensures.below };
      fact_4 = c.requires.face_value_3;
    }

pub shape_of-legs : goal.shape_of-legs
shape_of-legs c = c.add_leg.ensures.long

pub returns : goal.returns
returns c = group_one _ _ _ c.requires.face_value_2 _ _ _ _ _ (sym c.runs_on.ensures ∙ not_false _ (ap not c.if-not-runs_on.false)) _ (first_line _ _ _ _ c.requires.sheet_stands_1.ordered _ _ c.requires.sheet_stands_2 c.item_at.ensures) _ _ c.add_leg.ensures
