-- `rule_holes::nearest::put_plates` meets its contract: the flat faces that are met are marked.
use mathlib.Core.Path.{refl, ◌∙◌}
use Rattle.rule_holes.proofs.NearestLaws.{plates_start, plates_room, plates_more, plates_end}
use native.Mathlib.Omega.{arith}
use Rattle.rule_holes.proofs.nearest.put_plates.Goals as goal

pub face_places-places-requires : goal.face_places-places-requires
face_places-places-requires c =
    let g = c.requires in
    record {
      fact_1 = g.edges_ordered_1;
      fact_2 = g.edges_ordered_2;
      fact_3 = omega (arith, g.edges_ordered_3, g.edges_ordered_2.faces);
    }

pub loop-i-init : goal.loop-i-init
loop-i-init c =
    let g = c.requires in
    (plates_start _ _ _ _ g.edges_ordered_1 _ _ _ _ c.face_places-places.ensures c.fill.ensures g.file_in_bounds, refl)

pub next_group-group-requires : goal.next_group-group-requires
next_group-group-requires c =
    let g = c.requires in
    record {
      edges_ordered_1 = g.edges_ordered_1;
      edges_ordered_2 = g.edges_ordered_3;
      rest_places_1 = c.loop-i.invariant.0.left;
      rest_places_2 = c.loop-i-test.true;
    }

pub put_plate-requires : goal.put_plate-requires
put_plate-requires c =
    let g = c.requires in
    record {
      fact_1 = g.edges_ordered_1.standing;
      fact_2 = c.next_group-group.ensures.group.other_below;
      fact_3 = plates_room _ _ _ _ g.edges_ordered_1 _ c.loop-i.invariant.0 _ c.next_group-group.ensures.group.other_below;
    }

pub loop-i-smaller : goal.loop-i-smaller
loop-i-smaller c =
    omega (arith, c.next_group-group.ensures.from, c.next_group-group.ensures.group.some, c.loop-i-test.true)

pub loop-i-preserved : goal.loop-i-preserved
loop-i-preserved c =
    (plates_more _ _ _ _ c.requires.edges_ordered_1 _ c.loop-i.invariant.0 _ _ c.next_group-group.ensures c.put_plate.ensures, c.put_plate.auto.plates ∙ c.loop-i.invariant.1)

pub shape_of-plates : goal.shape_of-plates
shape_of-plates c = c.loop-i.invariant.1 ∙ c.fill.auto.cells

pub returns : goal.returns
returns c =
    let g = c.requires in
    record {
      fact_1 = plates_end _ _ _ _ g.edges_ordered_1 _ c.loop-i.invariant.0 g.edges_ordered_3 c.loop-i-test.false;
      fact_2 = c.loop-i.invariant.1 ∙ c.fill.auto.cells;
    }
