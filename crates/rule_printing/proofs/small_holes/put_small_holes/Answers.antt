-- `rule_printing::small_holes::put_small_holes` meets its contract: the faults of the faces that are passed are put.
use Rattle.solid_faces.proofs.BodyLaws.{checked_faces}
use Rattle.rule_printing.proofs.HoleLaws.{holes_start, holes_pass, holes_next, holes_end, kind_room, kind_fits, kind_bytes, hole_round, hole_fits}
use native.Mathlib.Omega.{arith}
use Rattle.rule_printing.proofs.small_holes.put_small_holes.Goals as goal

pub job_of-job-requires : goal.job_of-job-requires
job_of-job-requires c = c.requires.fact_1.placed.checked

pub loop-face-init : goal.loop-face-init
loop-face-init c = holes_start _ _ _ _

pub overflow_add-kinds : goal.overflow_add-kinds
overflow_add-kinds c = omega (arith, kind_fits _ _ _ _ c.requires.fact_1 c.requires.fact_2 c.loop-face.face (omega (arith, c.loop-face-test.true, c.requires.fact_3)))

pub offset_bounds-words-kinds : goal.offset_bounds-words-kinds
offset_bounds-words-kinds c = omega (arith, kind_bytes _ _ _ _ c.requires.fact_1 c.requires.fact_2 c.loop-face.face (omega (arith, c.loop-face-test.true, c.requires.fact_3)))

pub bounds-words-kinds : goal.bounds-words-kinds
bounds-words-kinds c = kind_room _ _ _ _ c.requires.fact_1 c.requires.fact_2 c.loop-face.face (omega (arith, c.loop-face-test.true, c.requires.fact_3))

pub loop-face-preserved-then-words-kinds-ne3 : goal.loop-face-preserved-then-words-kinds-ne3
loop-face-preserved-then-words-kinds-ne3 c = holes_pass _ _ _ _ c.requires.fact_1 c.requires.fact_2 c.loop-face.face (omega (arith, c.loop-face-test.true, c.requires.fact_3)) c.if-words-kinds-ne3.true c.loop-face.invariant

pub round_at-hole-requires : goal.round_at-hole-requires
round_at-hole-requires c =
    record {
      standing_1 = c.requires.fact_1;
      standing_2 = c.requires.fact_2;
      f_bound_1 = (omega (arith, c.loop-face-test.true, c.requires.fact_3));
      f_bound_2 = hole_round _ _ _ _ c.requires.fact_1 c.requires.fact_2 c.loop-face.face (omega (arith, c.loop-face-test.true, c.requires.fact_3)) c.if-words-kinds-ne3.false;
    }

pub put_small_hole-k-requires : goal.put_small_hole-k-requires
put_small_hole-k-requires c = let all = hole_fits _ _ _ _ c.requires.fact_1 c.requires.fact_2 c.loop-face.face (omega (arith, c.loop-face-test.true, c.requires.fact_3)) c.if-words-kinds-ne3.false _ c.round_at-hole.ensures c.requires.fact_4 c.loop-face.invariant.few in record { fact_1 = all.0; fact_2 = all.1 }

pub loop-face-preserved : goal.loop-face-preserved
loop-face-preserved c = holes_next _ _ _ _ c.requires.fact_1 c.requires.fact_2 c.loop-face.face (omega (arith, c.loop-face-test.true, c.requires.fact_3)) c.if-words-kinds-ne3.false _ c.round_at-hole.ensures _ c.job_of-job.ensures c.loop-face.invariant c.put_small_hole-k.ensures

pub shape_of-cells : goal.shape_of-cells
shape_of-cells c = c.loop-face.invariant.put.cells_kept.long

pub shape_of-numbers : goal.shape_of-numbers
shape_of-numbers c = c.loop-face.invariant.put.numbers_kept.long

pub returns : goal.returns
returns c =
    record {
      fact_1 = holes_end _ (omega (arith, c.loop-face-test.false, c.requires.fact_3)) c.loop-face.invariant;
      fact_2 = omega (arith, c.loop-face.invariant.few, c.requires.fact_3, checked_faces _ c.requires.fact_1.placed.checked);
    }
