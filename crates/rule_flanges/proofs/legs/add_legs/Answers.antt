-- `rule_flanges::legs::add_legs` meets its contract: the neighbours that are passed; one leg each at most, so there is room.
use mathlib.Core.Path.{ap}
use Rattle.solid_tours.proofs.PlaceLaws.{readable}
use Rattle.round_all.specs.declared.round.Round.{Round}
use Rattle.rule_flanges.proofs.LegLaws.{round_same}
use Rattle.rule_flanges.proofs.WalkLaws.{legs_start, legs_room, legs_next, legs_end}
use native.Mathlib.Omega.{arith}
use Rattle.rule_flanges.proofs.legs.add_legs.Goals as goal

pub round_at-requires : goal.round_at-requires
round_at-requires c =
    record {
      standing_1 = c.requires.sheet_stands_1.ordered.standing;
      standing_2 = c.requires.sheet_stands_1.rounds;
      f_bound_1 = c.requires.sheet_stands_2;
      f_bound_2 = c.requires.sheet_stands_3;
    }

pub face_places-places-requires : goal.face_places-places-requires
face_places-places-requires c =
    record {
      fact_1 = c.requires.sheet_stands_1.ordered;
      fact_2 = c.requires.sheet_stands_1.counted;
      fact_3 = omega (arith, c.requires.sheet_stands_2, c.requires.sheet_stands_1.counted.faces);
    }

pub loop-i-init : goal.loop-i-init
loop-i-init c = legs_start _ (readable _ _ _ _ c.requires.sheet_stands_1.ordered) _ _ _ _ _ _ _ _ c.face_places-places.ensures c.requires.legs_there_1

pub next_group-group-requires : goal.next_group-group-requires
next_group-group-requires c =
    record {
      edges_ordered_1 = c.requires.sheet_stands_1.ordered;
      edges_ordered_2 = c.requires.sheet_stands_2;
      rest_places_1 = c.loop-i.invariant.left;
      rest_places_2 = c.loop-i-test.true;
    }

pub add_group-m-requires : goal.add_group-m-requires
add_group-m-requires c =
    record {
      sheet_stands_1 = c.requires.sheet_stands_1;
      sheet_stands_2 = c.next_group-group.ensures.group;
      face_value_1 = round_same _ _ _ c.next_group-group.ensures.face_is c.requires.sheet_stands_3;
      face_value_2 = c.loop-i.invariant.there;
      face_value_3 = legs_room _ (readable _ _ _ _ c.requires.sheet_stands_1.ordered) _ _ _ _ _ _ _ _ _ c.loop-i.invariant c.loop-i-test.true c.requires.legs_there_2;
    }

pub loop-i-smaller : goal.loop-i-smaller
loop-i-smaller c = omega (arith, c.loop-i-test.true, c.next_group-group.ensures.from, c.next_group-group.ensures.group.some)

pub loop-i-preserved : goal.loop-i-preserved
loop-i-preserved c = legs_next _ (readable _ _ _ _ c.requires.sheet_stands_1.ordered) _ _ _ _ _ _ _ _ _ c.loop-i.invariant _ _ _ _ _ c.next_group-group.ensures c.add_group-m.ensures

pub shape_of-legs : goal.shape_of-legs
shape_of-legs c = c.loop-i.invariant.long

pub returns : goal.returns
returns c = legs_end _ (readable _ _ _ _ c.requires.sheet_stands_1.ordered) _ _ _ _ _ _ _ _ _ c.loop-i.invariant c.loop-i-test.false c.requires.sheet_stands_2 (ap (λ (r : Round). r.axis) c.round_at.ensures)
