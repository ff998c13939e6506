-- `obj_windows::fill::load` meets its contract: the window holds the vertices of the lines passed.
use mathlib.Core.Path.{ap, ◌∙◌}
use mathlib.Core.List.{List}
use Prim.Native.Nat.{ℕ}
use lib.ListN.{length}
use Rattle.obj_number.specs.Cut.{before}
use Rattle.obj_number.proofs.CutLaws.{part_all}
use Rattle.obj_text.proofs.LineLaws.{forms_step, end_inside}
use Rattle.obj_windows.proofs.FillLaws.{shows, loading_none, loading_step}
use native.Mathlib.Omega.{arith}
use Rattle.obj_windows.proofs.fill.load.Goals as goal

pub loop-at-init : goal.loop-at-init
loop-at-init c = loading_none _ _ _ _ _ c.requires.fact_1 c.requires.fact_2

pub overflow_add-end : goal.overflow_add-end
overflow_add-end c = omega (arith, end_inside c.args.text.now c.loop-at.at c.find.result (omega (arith, c.loop-at-test.true)) (c.find.ensures ∙ ap (λ (l : List ℕ). length (before 10 l)) (part_all _ c.args.text.now)))

pub slice_bounds-read_vertex-end : goal.slice_bounds-read_vertex-end
slice_bounds-read_vertex-end c = end_inside c.args.text.now c.loop-at.at c.find.result (omega (arith, c.loop-at-test.true)) (c.find.ensures ∙ ap (λ (l : List ℕ). length (before 10 l)) (part_all _ c.args.text.now))

pub loop-at-preserved : goal.loop-at-preserved
loop-at-preserved c = loading_step c.loop-at.invariant _ _ _ _ _ _ _ (forms_step c.args.text.now c.loop-at.at c.find.result (omega (arith, c.loop-at-test.true)) (c.find.ensures ∙ ap (λ (l : List ℕ). length (before 10 l)) (part_all _ c.args.text.now))) (shows _ _ c.read_vertex-line.ensures) (omega (arith, c.loop-at.invariant.count_most, c.if-n-eq16384.false)) (omega arith) (omega (arith, end_inside c.args.text.now c.loop-at.at c.find.result (omega (arith, c.loop-at-test.true)) (c.find.ensures ∙ ap (λ (l : List ℕ). length (before 10 l)) (part_all _ c.args.text.now)))) c.load_line-n.ensures
