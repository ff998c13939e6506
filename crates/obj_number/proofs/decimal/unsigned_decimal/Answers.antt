-- `obj_number::decimal::unsigned_decimal` meets its contract: cut at the point, by the laws of `DecimalLaws`.
use mathlib.Core.Path.{sym, ap, ◌∙◌}
use native.Mathlib.Nat.{le_trans, le_of_eq}
use lib.Seq.{length-take-le}
use Rattle.obj_number.specs.Whole.{digits_field}
use Rattle.obj_number.proofs.CutLaws.{before_length, part_all}
use Rattle.obj_number.proofs.DecimalLaws.{no_digits, many_digits, bad_front, bad_tail, front_le, small, read_right}
use native.Mathlib.Omega.{arith}
use Rattle.obj_number.proofs.decimal.unsigned_decimal.Goals as goal

pub overflow_add-point : goal.overflow_add-point
overflow_add-point c = omega (arith, c.find-point.ensures, before_length 46 c.args.s.now)

pub returns-then-count-eq0 : goal.returns-then-count-eq0
returns-then-count-eq0 c = no_digits c.args.s.now c.find-point.result c.min-rest.result c.find-point.ensures c.min-rest.ensures c.if-count-eq0.true

pub returns-then-count-gt15 : goal.returns-then-count-gt15
returns-then-count-gt15 c = many_digits c.args.s.now c.find-point.result c.min-rest.result c.find-point.ensures c.min-rest.ensures c.if-count-gt15.true

pub slice_bounds-digits-end : goal.slice_bounds-digits-end
slice_bounds-digits-end c = sym (length-take-le _ _ (le_trans (le_of_eq c.find-point.ensures) (before_length 46 c.args.s.now)))

pub returns-in_err-n : goal.returns-in_err-n
returns-in_err-n c = c.from_residual.ensures ∙ bad_front c.args.s.now c.find-point.result c.min-rest.result c.find-point.ensures c.min-rest.ensures _ c.digits.ensures c.in_err-n.was

pub digits-requires-2 : goal.digits-requires-2
digits-requires-2 c = front_le c.args.s.now c.find-point.result c.min-rest.result c.find-point.ensures c.min-rest.ensures _ _ c.digits.ensures c.in_ok-n.was

pub returns-in_err-m : goal.returns-in_err-m
returns-in_err-m c = c.from_residual-in_err-m.ensures ∙ bad_tail c.args.s.now c.find-point.result c.min-rest.result c.find-point.ensures c.min-rest.ensures _ _ (c.digits-2.ensures ∙ ap (digits_field _) (part_all _ c.args.s.now)) c.in_err-m.was

pub quotient-requires-clause-fact_1 : goal.quotient-requires-clause-fact_1
quotient-requires-clause-fact_1 c =
    small c.args.s.now c.find-point.result c.min-rest.result c.find-point.ensures c.min-rest.ensures c.in_ok-n.n c.in_ok-m.m _ _ c.digits.ensures c.in_ok-n.was (c.digits-2.ensures ∙ ap (digits_field _) (part_all _ c.args.s.now)) c.in_ok-m.was c.if-count-eq0.false c.if-count-gt15.false

pub returns : goal.returns
returns c = read_right c.args.s.now c.find-point.result c.min-rest.result c.find-point.ensures c.min-rest.ensures c.in_ok-n.n c.in_ok-m.m _ _ c.digits.ensures c.in_ok-n.was (c.digits-2.ensures ∙ ap (digits_field _) (part_all _ c.args.s.now)) c.in_ok-m.was c.if-count-eq0.false c.if-count-gt15.false _ c.quotient.ensures
