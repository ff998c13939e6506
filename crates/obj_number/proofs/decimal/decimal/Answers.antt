-- `obj_number::decimal::decimal` meets its contract: the sign, then the rest.
use mathlib.Core.Path.{ap, ◌∙◌}
use Rattle.obj_number.specs.Decimal.{unsigned_field}
use Rattle.obj_number.proofs.CutLaws.{part_all}
use Rattle.obj_number.proofs.DecimalLaws.{empty_field, sign_inside, sign_not, sign_minus, sign_plus}
use Rattle.obj_number.proofs.decimal.decimal.Goals as goal

pub returns-then-field-eq0 : goal.returns-then-field-eq0
returns-then-field-eq0 c = empty_field c.args.field.now c.if-field-eq0.true

pub slice_bounds-unsigned_decimal-count : goal.slice_bounds-unsigned_decimal-count
slice_bounds-unsigned_decimal-count c = sign_inside c.args.field.now c.sign_length-from.result c.sign_length-from.ensures c.if-field-eq0.false

pub slice_bounds-unsigned_decimal-start : goal.slice_bounds-unsigned_decimal-start
slice_bounds-unsigned_decimal-start c = sign_inside c.args.field.now c.sign_length-from.result c.sign_length-from.ensures c.if-field-eq0.false

pub returns-in_err-x : goal.returns-in_err-x
returns-in_err-x c = c.from_residual.ensures ∙ sign_not c.args.field.now c.sign_length-from.result c.sign_length-from.ensures _ (c.unsigned_decimal.ensures ∙ ap unsigned_field (part_all _ c.args.field.now)) c.in_err-x.was

pub returns-then-b-eq45 : goal.returns-then-b-eq45
returns-then-b-eq45 c = sign_minus c.args.field.now c.sign_length-from.result c.sign_length-from.ensures _ _ c.if-b-eq45.true (c.unsigned_decimal.ensures ∙ ap unsigned_field (part_all _ c.args.field.now)) c.in_ok-x.was

pub returns : goal.returns
returns c = sign_plus c.args.field.now c.sign_length-from.result c.sign_length-from.ensures _ _ c.if-b-eq45.false (c.unsigned_decimal.ensures ∙ ap unsigned_field (part_all _ c.args.field.now)) c.in_ok-x.was
