-- `obj_text::judge::judge` meets its contract: the lines that are left, tallied and noted now, give the whole.
use Rattle.std.proofs.Common.{Ok}
use mathlib.Core.Path.{sym, ap, ◌∙◌, subst}
use mathlib.Core.List.{List}
use Prim.Native.Nat.{ℕ}
use lib.ListN.{length}
use Rattle.obj_number.specs.Cut.{before}
use Rattle.obj_number.proofs.CutLaws.{part_all}
use Rattle.obj_line.specs.Form.{Form}
use Rattle.obj_text.specs.Judged.{tables}
use Rattle.obj_text.specs.Work.{tally_from, start}
use Rattle.obj_text.proofs.LineLaws.{forms_start, forms_end, forms_step, end_inside}
use Rattle.obj_text.proofs.TallyLaws.{passed_up, grown, tally_more, tally_stop, tally_none, told}
use Rattle.obj_text.proofs.NoteLaws.{Left, left_all, left_step, noted_sized, judged_refused, judged_all}
use native.Mathlib.Omega.{arith}
use Rattle.obj_text.proofs.judge.judge.Goals as goal

pub loop-at-init : goal.loop-at-init
unfolding start
loop-at-init c = record {
  inside = omega arith;
  few = omega arith;
  corners_to = omega arith;
  polygons_to = omega arith;
  tally = ap (tally_from (Ok start)) (forms_start c.args.text.now);
  left = left_all c.args.text.now _ _ c.requires (forms_start c.args.text.now);
}

pub overflow_add-end : goal.overflow_add-end
overflow_add-end c = omega (arith, end_inside c.args.text.now c.loop-at.at c.find.result (omega (arith, c.loop-at-test.true)) (c.find.ensures ∙ ap (λ (l : List ℕ). length (before 10 l)) (part_all _ c.args.text.now)))

pub slice_bounds-note_line-end : goal.slice_bounds-note_line-end
slice_bounds-note_line-end c = end_inside c.args.text.now c.loop-at.at c.find.result (omega (arith, c.loop-at-test.true)) (c.find.ensures ∙ ap (λ (l : List ℕ). length (before 10 l)) (part_all _ c.args.text.now))

pub returns-in_err-t : goal.returns-in_err-t
returns-in_err-t c =
    rw (passed_up c.from_residual.result _ c.from_residual.ensures.1)
    (judged_refused c.args.text.now _ _ _
    (told c.args.text.now _ (omega (arith, c.well_formed.0))
    (tally_stop c.loop-at.t _ _ _ (sym c.note_line.ensures.tally ∙ c.in_err-t.was)
    ∙ ap (tally_from (Ok c.loop-at.t)) (sym (forms_step c.args.text.now c.loop-at.at c.find.result (omega (arith, c.loop-at-test.true)) (c.find.ensures ∙ ap (λ (l : List ℕ). length (before 10 l)) (part_all _ c.args.text.now))))
    ∙ c.loop-at.invariant.tally))
    (noted_sized c.loop-at.invariant.left.sized c.note_line.ensures))

pub loop-at-preserved : goal.loop-at-preserved
loop-at-preserved c =
    let place = c.find.ensures ∙ ap (λ (l : List ℕ). length (before 10 l)) (part_all _ c.args.text.now) in
    let step = forms_step c.args.text.now c.loop-at.at c.find.result (omega (arith, c.loop-at-test.true)) place in
    let more = sym c.note_line.ensures.tally ∙ c.in_ok-t.was in
    let g = grown c.loop-at.t c.loop-at.invariant.corners_to c.loop-at.invariant.polygons_to _ c.in_ok-t.t more in
    record {
      inside = omega (arith, end_inside c.args.text.now c.loop-at.at c.find.result (omega (arith, c.loop-at-test.true)) place);
      few = omega (arith, g.defined_to, c.loop-at.invariant.few);
      corners_to = g.corners_to_lem;
      polygons_to = g.polygons_to_lem;
      tally = tally_more c.loop-at.t _ _ _ more ∙ ap (tally_from (Ok c.loop-at.t)) (sym step) ∙ c.loop-at.invariant.tally;
      left =
          left_step
          (subst (λ (fs : List Form). Left c.args.text.now (tables c.args.numbers.now c.args.indices.now c.args.counts.now c.args.xs.now c.args.ys.now c.args.zs.now) fs c.loop-at.t (tables c.loop-at.numbers c.loop-at.indices c.loop-at.counts c.loop-at.xs c.loop-at.ys c.loop-at.zs)) step c.loop-at.invariant.left)
          c.loop-at.invariant.corners_to c.loop-at.invariant.polygons_to _ _ c.note_line.ensures _ c.in_ok-t.was;
    }

pub returns : goal.returns
returns c =
    let end = forms_end c.args.text.now c.loop-at.at (omega (arith, c.loop-at-test.false)) in
    judged_all c.args.text.now _ _ _ _
    (told c.args.text.now _ (omega (arith, c.well_formed.0)) (sym (tally_none c.loop-at.t) ∙ ap (tally_from (Ok c.loop-at.t)) (sym end) ∙ c.loop-at.invariant.tally)) end c.loop-at.invariant.left
