-- `obj_number::whole::digits` meets its contract: what is left of the digits, read after the value so far, gives the whole.
use mathlib.Core.Path.{sym, ap, ◌∙◌, subst}
use Prim.Native.Nat.{ℕ, ◌≤◌, ◌^◌}
use lib.ListN.{drop_of_length-le}
use Rattle.obj_number.specs.Whole.{digits_field}
use Rattle.obj_number.proofs.WholeLaws.{capped_le, field_none, field_more, field_not}
use Rattle.obj_number.proofs.whole.digits.Goals as goal

pub returns-then-not-is_digit : goal.returns-then-not-is_digit
returns-then-not-is_digit c = sym (field_not c.args.s.now c.loop-b.value c.loop-b.b-index c.loop-b-test.true (sym c.is_digit.ensures ∙ c.if-not-is_digit.true)) ∙ c.loop-b.invariant.rest

pub loop-b-preserved : goal.loop-b-preserved
loop-b-preserved c = record {
  most = subst (λ (k : ℕ). k ≤ 2 ^ 63) (sym c.append-value.ensures) (capped_le _);
  rest = field_more c.args.s.now c.loop-b.value c.loop-b.b-index _ c.loop-b-test.true (sym c.is_digit.ensures ∙ c.if-not-is_digit.false) c.append-value.ensures ∙ c.loop-b.invariant.rest;
}

pub returns : goal.returns
returns c = sym (field_none c.loop-b.value c.loop-b.invariant.most) ∙ ap (digits_field c.loop-b.value) (sym (drop_of_length-le c.args.s.now c.loop-b-test.false)) ∙ c.loop-b.invariant.rest
