-- `obj_windows::fill::skip` meets its contract: the lines passed.
use mathlib.Core.Path.{ap, ◌∙◌}
use mathlib.Core.List.{List}
use Prim.Native.Nat.{ℕ}
use lib.ListN.{length}
use Rattle.obj_number.specs.Cut.{before}
use Rattle.obj_number.proofs.CutLaws.{part_all}
use Rattle.obj_text.proofs.LineLaws.{forms_step, end_inside}
use Rattle.obj_windows.proofs.FillLaws.{skipped_none, skipped_formed, skipped_step}
use native.Mathlib.Omega.{arith}
use Rattle.obj_windows.proofs.fill.skip.Goals as goal

pub loop-at-init : goal.loop-at-init
loop-at-init c = skipped_none _ _ _ c.requires.fact_1 c.requires.fact_2

pub overflow_add-end : goal.overflow_add-end
overflow_add-end c = omega (arith, end_inside c.args.text.now c.loop-at.at c.find.result (omega (arith, c.loop-at-test.true)) (c.find.ensures ∙ ap (λ (l : List ℕ). length (before 10 l)) (part_all _ c.args.text.now)))

pub slice_bounds-defined_by-end : goal.slice_bounds-defined_by-end
slice_bounds-defined_by-end c = end_inside c.args.text.now c.loop-at.at c.find.result (omega (arith, c.loop-at-test.true)) (c.find.ensures ∙ ap (λ (l : List ℕ). length (before 10 l)) (part_all _ c.args.text.now))

pub defined_by-n-requires : goal.defined_by-n-requires
defined_by-n-requires c = skipped_formed c.loop-at.invariant _ _ (forms_step c.args.text.now c.loop-at.at c.find.result (omega (arith, c.loop-at-test.true)) (c.find.ensures ∙ ap (λ (l : List ℕ). length (before 10 l)) (part_all _ c.args.text.now)))

pub overflow_add-n : goal.overflow_add-n
overflow_add-n c = let k = c.loop-at.invariant.few in let d = (skipped_step c.loop-at.invariant _ _ (forms_step c.args.text.now c.loop-at.at c.find.result (omega (arith, c.loop-at-test.true)) (c.find.ensures ∙ ap (λ (l : List ℕ). length (before 10 l)) (part_all _ c.args.text.now))) _ c.defined_by-n.ensures c.if-n-most.false (omega arith) (omega (arith, end_inside c.args.text.now c.loop-at.at c.find.result (omega (arith, c.loop-at-test.true)) (c.find.ensures ∙ ap (λ (l : List ℕ). length (before 10 l)) (part_all _ c.args.text.now))))).few in omega (arith, k, d, c.loop-at-test.true, end_inside c.args.text.now c.loop-at.at c.find.result (omega (arith, c.loop-at-test.true)) (c.find.ensures ∙ ap (λ (l : List ℕ). length (before 10 l)) (part_all _ c.args.text.now)))

pub loop-at-preserved : goal.loop-at-preserved
loop-at-preserved c = skipped_step c.loop-at.invariant _ _ (forms_step c.args.text.now c.loop-at.at c.find.result (omega (arith, c.loop-at-test.true)) (c.find.ensures ∙ ap (λ (l : List ℕ). length (before 10 l)) (part_all _ c.args.text.now))) _ c.defined_by-n.ensures c.if-n-most.false (omega arith) (omega (arith, end_inside c.args.text.now c.loop-at.at c.find.result (omega (arith, c.loop-at-test.true)) (c.find.ensures ∙ ap (λ (l : List ℕ). length (before 10 l)) (part_all _ c.args.text.now))))
