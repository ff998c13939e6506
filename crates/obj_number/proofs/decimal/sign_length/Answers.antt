-- `obj_number::decimal::sign_length` meets its contract.
use borrow.Author.Tests.{eq-eqb, ne_eqb}
use Rattle.obj_number.specs.Decimal.{is_sign}
use Rattle.obj_number.proofs.decimal.sign_length.Goals as goal

pub returns-then-b-eq43 : goal.returns-then-b-eq43
unfolding is_sign
returns-then-b-eq43 c = rw (eq-eqb c.args.b 43 c.if-b-eq43.true)

pub returns-then-b-eq45 : goal.returns-then-b-eq45
unfolding is_sign
returns-then-b-eq45 c = rw (ne_eqb c.args.b 43 c.if-b-eq43.false, eq-eqb c.args.b 45 c.if-b-eq45.true)

pub returns : goal.returns
unfolding is_sign
returns c = rw (ne_eqb c.args.b 43 c.if-b-eq43.false, ne_eqb c.args.b 45 c.if-b-eq45.false)
