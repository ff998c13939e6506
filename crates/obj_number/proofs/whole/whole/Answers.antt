-- `obj_number::whole::whole` meets its contract.
use mathlib.Core.Path.{sym, ◌∙◌}
use Rattle.obj_number.proofs.WholeLaws.{whole_empty, whole_digits}
use Rattle.obj_number.proofs.whole.whole.Goals as goal

pub returns-then-field-eq0 : goal.returns-then-field-eq0
returns-then-field-eq0 c = sym (whole_empty c.args.field.now c.if-field-eq0.true)

pub returns : goal.returns
returns c = c.digits.ensures ∙ sym (whole_digits c.args.field.now c.if-field-eq0.false)
