-- `obj_line::field::next` meets its contract.
use mathlib.Core.Path.{ap, ◌∙◌}
use mathlib.Core.List.{List}
use Prim.Native.Nat.{ℕ, ◌+◌}
use lib.ListN.{length}
use Rattle.obj_number.specs.Cut.{before}
use Rattle.obj_number.proofs.CutLaws.{part_all}
use Rattle.obj_line.specs.Work.{spaces_of}
use Rattle.obj_line.proofs.FieldLaws.{next_end, next_is, spaces_inside, find_inside}
use native.Mathlib.Omega.{arith}
use Rattle.obj_line.proofs.field.next.Goals as goal

pub returns-then-line-at : goal.returns-then-line-at
returns-then-line-at c = next_end c.args.line.now c.args.at c.if-line-at.true

pub overflow_add-start : goal.overflow_add-start
overflow_add-start c = omega arith

pub slice_bounds-spaces-count : goal.slice_bounds-spaces-count
slice_bounds-spaces-count c = omega arith

pub slice_bounds-spaces-start : goal.slice_bounds-spaces-start
slice_bounds-spaces-start c = omega arith

pub overflow_add-from : goal.overflow_add-from
overflow_add-from c = omega (arith, spaces_inside c.args.line.now (c.args.at + 1) c.spaces.result (c.spaces.ensures ∙ ap spaces_of (part_all _ c.args.line.now)))

pub slice_bounds-find-count : goal.slice_bounds-find-count
slice_bounds-find-count c = omega (arith, spaces_inside c.args.line.now (c.args.at + 1) c.spaces.result (c.spaces.ensures ∙ ap spaces_of (part_all _ c.args.line.now)))

pub slice_bounds-find-start : goal.slice_bounds-find-start
slice_bounds-find-start c = omega (arith, spaces_inside c.args.line.now (c.args.at + 1) c.spaces.result (c.spaces.ensures ∙ ap spaces_of (part_all _ c.args.line.now)))

pub overflow_add-to : goal.overflow_add-to
overflow_add-to c = omega (arith, spaces_inside c.args.line.now (c.args.at + 1) c.spaces.result (c.spaces.ensures ∙ ap spaces_of (part_all _ c.args.line.now)), find_inside c.args.line.now (c.args.at + 1 + c.spaces.result) c.find.result (c.find.ensures ∙ ap (λ (l : List ℕ). length (before 32 l)) (part_all _ c.args.line.now)))

pub returns : goal.returns
returns c = next_is c.args.line.now c.args.at _ _ c.if-line-at.false (c.spaces.ensures ∙ ap spaces_of (part_all _ c.args.line.now)) (c.find.ensures ∙ ap (λ (l : List ℕ). length (before 32 l)) (part_all _ c.args.line.now))
