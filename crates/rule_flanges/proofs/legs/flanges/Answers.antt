-- `rule_flanges::legs::flanges` meets its contract: the inside face, then the outside face.
use mathlib.Core.Path.{◌∙◌}
use Rattle.sheet_bends.proofs.BendLaws.{bend_faces}
use Rattle.rule_flanges.proofs.LegLaws.{round_same}
use Rattle.rule_flanges.proofs.WalkLaws.{both_taken, none_there}
use native.Mathlib.Omega.{arith}
use Rattle.rule_flanges.proofs.legs.flanges.Goals as goal

pub add_legs-n-requires : goal.add_legs-n-requires
add_legs-n-requires c =
    record {
      sheet_stands_1 = c.requires.sheet_stands_1;
      sheet_stands_2 = c.requires.sheet_stands_2;
      sheet_stands_3 = (bend_faces _ _ _ c.requires.sheet_stands_3).0;
      legs_there_1 = none_there _ _;
      legs_there_2 = omega (arith, c.requires.g_value_2);
    }

pub add_legs-requires : goal.add_legs-requires
add_legs-requires c = let g = c.requires.g_value_1 in
    record {
      sheet_stands_1 = c.requires.sheet_stands_1;
      sheet_stands_2 = omega (arith, g, (bend_faces _ _ _ c.requires.sheet_stands_3).1);
      sheet_stands_3 = round_same _ _ _ g (bend_faces _ _ _ c.requires.sheet_stands_3).2;
      legs_there_1 = c.add_legs-n.ensures.there;
      legs_there_2 = omega (arith, c.requires.g_value_2, c.add_legs-n.ensures.few, c.add_legs-n.ensures.long);
    }

pub shape_of-legs : goal.shape_of-legs
shape_of-legs c = c.add_legs.ensures.long ∙ c.add_legs-n.ensures.long

pub returns : goal.returns
returns c = both_taken _ _ _ _ _ _ _ _ _ c.requires.g_value_1 c.add_legs-n.ensures c.add_legs.ensures
