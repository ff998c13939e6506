-- `obj_line::line::vertex_line` meets its contract: field by field.
use mathlib.Core.Path.{sym, ap, ◌∙◌}
use Rattle.obj_number.specs.Decimal.{decimal_field}
use Rattle.obj_line.specs.Work.{first, others}
use Rattle.obj_line.proofs.FieldLaws.{real_is, real_not, none_left, field_left}
use Rattle.obj_line.proofs.FormLaws.{vertex_first, vertex_second, vertex_third, vertex_more, vertex_is}
use Rattle.obj_line.proofs.line.vertex_line.Goals as goal

pub returns-in_err-x : goal.returns-in_err-x
returns-in_err-x c = rw c.from_residual.ensures (vertex_first _ (real_not _ _ (c.decimal.ensures ∙ ap decimal_field c.next-a.ensures.field) c.in_err-x.was))

pub returns-in_err-y : goal.returns-in_err-y
returns-in_err-y c = rw c.from_residual-in_err-y.ensures (vertex_second _ (real_not _ _ (c.decimal-2.ensures ∙ ap decimal_field (c.next-b.ensures.field ∙ ap first c.next-a.ensures.rest)) c.in_err-y.was))

pub returns-in_err-z : goal.returns-in_err-z
returns-in_err-z c = rw c.from_residual-in_err-z.ensures (vertex_third _ (real_not _ _ (c.decimal-3.ensures ∙ ap decimal_field (c.next-c.ensures.field ∙ ap first (c.next-b.ensures.rest ∙ ap others c.next-a.ensures.rest))) c.in_err-z.was))

pub returns-then-c-line : goal.returns-then-c-line
returns-then-c-line c = vertex_more _ _ _ (sym (c.next-c.ensures.rest ∙ ap others (c.next-b.ensures.rest ∙ ap others c.next-a.ensures.rest)) ∙ field_left c.args.line.now _ c.if-c-line.true)

pub returns : goal.returns
returns c = vertex_is _ _ _ _ (real_is _ _ _ (c.decimal.ensures ∙ ap decimal_field c.next-a.ensures.field) c.in_ok-x.was) (real_is _ _ _ (c.decimal-2.ensures ∙ ap decimal_field (c.next-b.ensures.field ∙ ap first c.next-a.ensures.rest)) c.in_ok-y.was) (real_is _ _ _ (c.decimal-3.ensures ∙ ap decimal_field (c.next-c.ensures.field ∙ ap first (c.next-b.ensures.rest ∙ ap others c.next-a.ensures.rest))) c.in_ok-z.was) (sym (c.next-c.ensures.rest ∙ ap others (c.next-b.ensures.rest ∙ ap others c.next-a.ensures.rest)) ∙ none_left c.args.line.now _ c.if-c-line.false)
