-- `rule_holes::nearest::with_plate` meets its contract: a tour of the face's neighbours.
use Rattle.rule_holes.proofs.NearestLaws.{nearest_start, nearest_more, nearest_end, group_same, beside_end}
use native.Mathlib.Omega.{arith}
use Rattle.rule_holes.proofs.nearest.with_plate.Goals as goal

pub face_places-places-requires : goal.face_places-places-requires
face_places-places-requires c =
    let g = c.requires in
    record {
      fact_1 = g.edges_ordered_1;
      fact_2 = g.edges_ordered_2;
      fact_3 = omega (arith, g.edges_ordered_3, g.edges_ordered_2.faces);
    }

pub loop-i-init : goal.loop-i-init
loop-i-init c =
    let g = c.requires in
    nearest_start _ _ _ _ g.edges_ordered_1 _ _ _ _ c.face_places-places.ensures g.plates_2

pub next_group-group-requires : goal.next_group-group-requires
next_group-group-requires c =
    let g = c.requires in
    record {
      edges_ordered_1 = g.edges_ordered_1;
      edges_ordered_2 = g.edges_ordered_3;
      rest_places_1 = c.loop-i.invariant.left;
      rest_places_2 = c.loop-i-test.true;
    }

pub with_group-nearest-requires : goal.with_group-nearest-requires
with_group-nearest-requires c =
    let g = c.requires in
    record {
      edges_ordered_1 = g.edges_ordered_1;
      edges_ordered_2 = g.edges_ordered_2;
      edges_ordered_3 = c.next_group-group.ensures.group;
      plates_1 = g.plates_1;
      plates_2 = c.loop-i.invariant.there;
    }

pub loop-i-smaller : goal.loop-i-smaller
loop-i-smaller c =
    omega (arith, c.next_group-group.ensures.from, c.next_group-group.ensures.group.some, c.loop-i-test.true)

pub loop-i-preserved : goal.loop-i-preserved
loop-i-preserved c =
    nearest_more _ _ _ _ c.requires.edges_ordered_1 _ c.loop-i.invariant _ _ c.next_group-group.ensures (group_same _ _ _ _ _ _ _ c.next_group-group.ensures.face_is c.with_group-nearest.ensures.fact_1) c.with_group-nearest.ensures.fact_2

pub returns : goal.returns
returns c =
    let g = c.requires in
    record {
      fact_1 = beside_end _ _ _ _ _ (nearest_end _ _ _ _ g.edges_ordered_1 _ c.loop-i.invariant g.edges_ordered_3 c.loop-i-test.false);
      fact_2 = c.loop-i.invariant.there;
    }
