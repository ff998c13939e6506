-- `rule_holes::holes::put_hole` meets its contract: one rule after the other.
use mathlib.Core.Path.{◌∙◌}
use Rattle.solid_faces.proofs.BodyLaws.{checked_faces}
use Rattle.rule_holes.proofs.NearestLaws.{there_below}
use Rattle.rule_holes.proofs.HoleLaws.{hole_alone, hole_close}
use native.Mathlib.Omega.{arith}
use Rattle.rule_holes.proofs.holes.put_hole.Goals as goal

pub put_small_hole-k-requires : goal.put_small_hole-k-requires
put_small_hole-k-requires c =
    let g = c.requires in
    record {
      fact_1 = omega (arith, g.file_in_bounds_2);
      fact_2 = omega (arith, g.face_bound_1, checked_faces _ g.sheet_stands_1.ordered.standing.placed.checked);
    }

pub put_plates-requires : goal.put_plates-requires
put_plates-requires c =
    let g = c.requires in
    record {
      edges_ordered_1 = g.sheet_stands_1.ordered;
      edges_ordered_2 = g.sheet_stands_1.counted;
      edges_ordered_3 = g.face_bound_1;
      file_in_bounds = g.file_in_bounds_1;
    }

pub nearest_of-requires : goal.nearest_of-requires
nearest_of-requires c =
    let g = c.requires in
    record {
      edges_ordered_1 = g.sheet_stands_1.ordered;
      edges_ordered_2 = g.sheet_stands_1.counted;
      edges_ordered_3 = g.face_bound_1;
      plates = c.put_plates.ensures.fact_1;
    }

pub returns-in_default : goal.returns-in_default
returns-in_default c =
    let g = c.requires in
    record {
      flaws_put = hole_alone _ _ _ _ g.sheet_stands_1 g.sheet_stands_2 _ g.sheet_stands_3 _ g.face_bound_1 g.face_bound_2 g.face_bound_3 g.face_bound_4 _ c.nearest_of.ensures.fact_1 c.in_default.is c.put_small_hole-k.ensures;
      upper_bound_1 = omega (arith, c.put_small_hole-k.ensures.few);
      upper_bound_2 = c.put_plates.ensures.fact_2;
    }

pub is_bend_face-near_bend-requires : goal.is_bend_face-near_bend-requires
is_bend_face-near_bend-requires c =
    record {
      fact_1 = c.requires.sheet_stands_1;
      fact_2 = there_below _ _ c.in-Some.ensures.fact_2;
    }

pub put_close-requires : goal.put_close-requires
put_close-requires c =
    let g = c.requires in
    record {
      fact_1 = omega (arith, c.put_small_hole-k.ensures.few, g.file_in_bounds_2);
      fact_2 = omega (arith, g.face_bound_1, checked_faces _ g.sheet_stands_1.ordered.standing.placed.checked);
      fact_3 = omega (arith, there_below _ _ c.in-Some.ensures.fact_2, checked_faces _ g.sheet_stands_1.ordered.standing.placed.checked);
    }

pub shape_of-cells : goal.shape_of-cells
shape_of-cells c = c.put_close.auto.cells ∙ c.put_small_hole-k.auto.cells

pub shape_of-numbers : goal.shape_of-numbers
shape_of-numbers c = c.put_close.auto.numbers ∙ c.put_small_hole-k.auto.numbers

pub shape_of-plates : goal.shape_of-plates
shape_of-plates c = c.put_plates.ensures.fact_2

pub returns : goal.returns
returns c =
    let g = c.requires in
    record {
      flaws_put = hole_close _ _ _ _ g.sheet_stands_1 g.sheet_stands_2 _ g.sheet_stands_3 _ g.face_bound_1 g.face_bound_2 g.face_bound_3 g.face_bound_4 _ c.nearest_of.ensures.fact_1 _ c.in-Some.is _ c.is_bend_face-near_bend.ensures _ c.need.ensures (there_below _ _ c.in-Some.ensures.fact_2) c.put_small_hole-k.ensures c.put_close.ensures;
      upper_bound_1 = omega (arith, c.put_small_hole-k.ensures.few, c.put_close.ensures.few);
      upper_bound_2 = c.put_plates.ensures.fact_2;
    }
