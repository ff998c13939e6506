-- `obj_line::line::group_line` meets its contract: one field.
use mathlib.Core.Path.{sym, ap, ◌∙◌}
use Rattle.obj_number.specs.Whole.{whole_field}
use Rattle.obj_line.proofs.FieldLaws.{whole_is, whole_not, none_left, field_left}
use Rattle.obj_line.proofs.FormLaws.{group_more, group_not, group_fits}
use Rattle.obj_line.proofs.line.group_line.Goals as goal

pub returns-then-f-line : goal.returns-then-f-line
returns-then-f-line c = group_more _ _ _ (sym c.next-f.ensures.rest ∙ field_left c.args.line.now _ c.if-f-line.true)

pub returns-in_err-n : goal.returns-in_err-n
returns-in_err-n c = rw c.from_residual.ensures (group_not _ (whole_not _ _ (c.whole.ensures ∙ ap whole_field c.next-f.ensures.field) c.in_err-n.was))

pub returns : goal.returns
returns c = group_fits _ _ _ _ (whole_is _ _ _ (c.whole.ensures ∙ ap whole_field c.next-f.ensures.field) c.in_ok-n.was) (sym c.next-f.ensures.rest ∙ none_left c.args.line.now _ c.if-f-line.false) c.try_from.ensures c.ok.ensures.value
