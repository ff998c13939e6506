-- `rule_sheet::tight::put_tight_bends` meets its contract: the faults of the faces that are passed are put.
use mathlib.Core.Path.{sym, ◌∙◌}
use Rattle.solid_faces.proofs.BodyLaws.{checked_faces}
use Rattle.sheet_bends.proofs.BendLaws.{no_bend, some_bend, bend_faces}
use Rattle.rule_sheet.proofs.TightLaws.{tight_start, tight_pass, tight_next, tight_end, bend_room, least_is}
use native.Mathlib.Omega.{arith}
use Rattle.rule_sheet.proofs.tight.put_tight_bends.Goals as goal

pub job_of-requires : goal.job_of-requires
job_of-requires c = c.requires.fact_1.ordered.standing.placed.checked

pub loop-face-init : goal.loop-face-init
loop-face-init c = tight_start _ _ _ _ _

pub bend_at-requires : goal.bend_at-requires
bend_at-requires c =
    record {
      fact_1 = c.requires.fact_1;
      fact_2 = omega (arith, c.loop-face-test.true, c.requires.fact_1.counted.faces);
    }

pub loop-face-preserved-in_default : goal.loop-face-preserved-in_default
loop-face-preserved-in_default c = tight_pass _ _ _ (no_bend _ _ _ (sym c.in_default.is ∙ c.bend_at.ensures)) c.loop-face.invariant

pub round_at-inner-requires : goal.round_at-inner-requires
round_at-inner-requires c =
    record {
      standing_1 = c.requires.fact_1.ordered.standing;
      standing_2 = c.requires.fact_1.rounds;
      f_bound_1 = omega (arith, c.loop-face-test.true, c.requires.fact_1.counted.faces);
      f_bound_2 = (bend_faces _ _ _ (some_bend _ _ c.loop-face.face _ c.in-Some.ensures).0).0;
    }

pub put_tight_bend-k-requires : goal.put_tight_bend-k-requires
put_tight_bend-k-requires c = let all = bend_room _ _ c.requires.fact_1.ordered.standing _ c.loop-face.face (omega (arith, c.loop-face-test.true, c.requires.fact_1.counted.faces)) (some_bend _ _ c.loop-face.face _ c.in-Some.ensures) _ c.round_at-inner.ensures _ c.requires.fact_3 c.loop-face.invariant.0 in record { fact_1 = all.0; fact_2 = all.1.0; fact_3 = all.1.1 }

pub loop-face-preserved : goal.loop-face-preserved
loop-face-preserved c = tight_next _ c.requires.fact_1.ordered.standing.placed.checked _ c.requires.fact_2 c.loop-face.face (omega (arith, c.loop-face-test.true, c.requires.fact_1.counted.faces)) (some_bend _ _ c.loop-face.face _ c.in-Some.ensures).0 _ c.round_at-inner.ensures _ _ (some_bend _ _ c.loop-face.face _ c.in-Some.ensures).1 (least_is _ _ _ _ c.job_of.ensures c.ratio_of.ensures) c.loop-face.invariant c.put_tight_bend-k.ensures

pub shape_of-cells : goal.shape_of-cells
shape_of-cells c = c.loop-face.invariant.1.cells_kept.long

pub shape_of-numbers : goal.shape_of-numbers
shape_of-numbers c = c.loop-face.invariant.1.numbers_kept.long

pub returns : goal.returns
returns c =
    record {
      fact_1 = tight_end _ _ (omega (arith, c.loop-face-test.false, c.requires.fact_1.counted.faces)) c.loop-face.invariant;
      fact_2 = omega (arith, c.loop-face.invariant.0, c.requires.fact_1.counted.faces, checked_faces _ c.requires.fact_1.ordered.standing.placed.checked);
    }
