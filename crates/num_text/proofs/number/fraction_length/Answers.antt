-- `num_text::number::fraction_length` meets its contract: four cases, by the last digit that is not zero.
use borrow.Author.Tests.{eq-eqb, ne_eqb}
use Rattle.num_text.specs.Number.{after_point, trim}
use Rattle.num_text.proofs.number.fraction_length.Goals as goal

pub returns-then-c-ne48 : goal.returns-then-c-ne48
unfolding after_point trim
returns-then-c-ne48 c = rw (ne_eqb _ 48 c.if-c-ne48.true)

pub returns-then-b-ne48 : goal.returns-then-b-ne48
unfolding after_point trim
returns-then-b-ne48 c = rw (eq-eqb _ 48 c.if-c-ne48.false, ne_eqb _ 48 c.if-b-ne48.true)

pub returns-then-a-ne48 : goal.returns-then-a-ne48
unfolding after_point trim
returns-then-a-ne48 c = rw (eq-eqb _ 48 c.if-c-ne48.false, eq-eqb _ 48 c.if-b-ne48.false, ne_eqb _ 48 c.if-a-ne48.true)

pub returns : goal.returns
unfolding after_point trim
returns c = rw (eq-eqb _ 48 c.if-c-ne48.false, eq-eqb _ 48 c.if-b-ne48.false, eq-eqb _ 48 c.if-a-ne48.false)
