-- `rule_holes::holes::put_holes` meets its contract: the faults of the faces that are passed are put.
use mathlib.Core.Path.{refl, sym, ◌∙◌}
use Rattle.solid_faces.proofs.BodyLaws.{checked_faces}
use Rattle.rule_holes.proofs.HoleLaws.{holes_start, holes_pass, holes_next, holes_end, low_face, kind_room, kind_fits, kind_bytes, hole_round, hole_there}
use native.Mathlib.Omega.{arith}
use Rattle.rule_holes.proofs.holes.put_holes.Goals as goal

pub limits_of-limits-requires : goal.limits_of-limits-requires
limits_of-limits-requires c = c.requires.fact_1

pub loop-face-init : goal.loop-face-init
loop-face-init c = (refl, holes_start _ _ _ _ _)

pub overflow_add-kinds : goal.overflow_add-kinds
overflow_add-kinds c = omega (arith, kind_fits _ _ _ _ c.requires.fact_1 c.loop-face.face c.loop-face-test.true)

pub offset_bounds-words-kinds : goal.offset_bounds-words-kinds
offset_bounds-words-kinds c = omega (arith, kind_bytes _ _ _ _ c.requires.fact_1 c.loop-face.face c.loop-face-test.true)

pub bounds-words-kinds : goal.bounds-words-kinds
bounds-words-kinds c = kind_room _ _ _ _ c.requires.fact_1 c.loop-face.face c.loop-face-test.true

pub loop-face-preserved-then-words-kinds-ne3 : goal.loop-face-preserved-then-words-kinds-ne3
loop-face-preserved-then-words-kinds-ne3 c =
    (c.loop-face.invariant.0, holes_pass _ _ _ _ c.requires.fact_1 c.loop-face.face c.loop-face-test.true _ c.if-words-kinds-ne3.true c.loop-face.invariant.1)

pub round_at-hole-requires : goal.round_at-hole-requires
round_at-hole-requires c =
    let g = c.requires in
    record {
      standing_1 = g.fact_1.ordered.standing;
      standing_2 = g.fact_1.rounds;
      f_bound_1 = low_face _ _ _ _ g.fact_1 c.loop-face.face c.loop-face-test.true;
      f_bound_2 = hole_round _ _ _ _ g.fact_1 c.loop-face.face c.loop-face-test.true c.if-words-kinds-ne3.false;
    }

pub slice_bounds-put_hole-end : goal.slice_bounds-put_hole-end
slice_bounds-put_hole-end c = sym c.loop-face.invariant.0

pub put_hole-k-requires : goal.put_hole-k-requires
put_hole-k-requires c =
    let g = c.requires in
    let h = hole_there _ _ _ _ g.fact_1 c.loop-face.face c.loop-face-test.true c.if-words-kinds-ne3.false _ c.round_at-hole.ensures in
    record {
      sheet_stands_1 = g.fact_1;
      sheet_stands_2 = g.fact_2;
      sheet_stands_3 = c.limits_of-limits.ensures;
      face_bound_1 = h.0;
      face_bound_2 = h.1;
      face_bound_3 = h.2;
      face_bound_4 = h.3;
      file_in_bounds_1 = omega (arith, checked_faces _ g.fact_1.ordered.standing.placed.checked, c.loop-face.invariant.0);
      file_in_bounds_2 = omega (arith, g.fact_3, c.loop-face.invariant.1.few, low_face _ _ _ _ g.fact_1 c.loop-face.face c.loop-face-test.true, checked_faces _ g.fact_1.ordered.standing.placed.checked);
    }

pub loop-face-preserved : goal.loop-face-preserved
loop-face-preserved c =
    (c.put_hole-k.ensures.upper_bound_2 ∙ c.loop-face.invariant.0, holes_next _ _ _ _ c.requires.fact_1 c.loop-face.face c.loop-face-test.true c.if-words-kinds-ne3.false _ _ c.round_at-hole.ensures c.loop-face.invariant.1 c.put_hole-k.ensures.flaws_put c.put_hole-k.ensures.upper_bound_1)

pub shape_of-cells : goal.shape_of-cells
shape_of-cells c = c.loop-face.invariant.1.put.cells_kept.long

pub shape_of-numbers : goal.shape_of-numbers
shape_of-numbers c = c.loop-face.invariant.1.put.numbers_kept.long

pub returns : goal.returns
returns c =
    let g = c.requires in
    record {
      fact_1 = holes_end _ _ (omega (arith, c.loop-face-test.false, g.fact_1.counted.faces)) c.loop-face.invariant.1;
      fact_2 = omega (arith, c.loop-face.invariant.1.few, g.fact_1.counted.faces, checked_faces _ g.fact_1.ordered.standing.placed.checked);
    }
