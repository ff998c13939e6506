-- `num_inch::inch::put_mixed` meets its contract: three cases.
use borrow.Author.Tests.{eq-eqb, ne_eqb}
use Rattle.num_inch.specs.Inch.{mixed}
use Rattle.num_text.proofs.TextLaws.{adds_then}
use Rattle.num_inch.proofs.inch.put_mixed.Goals as goal

pub returns-then-k-eq0 : goal.returns-then-k-eq0
unfolding mixed
returns-then-k-eq0 c =
    rw (eq-eqb _ 0 c.if-k-eq0.true) c.put_number.ensures

pub returns-then-whole-eq0 : goal.returns-then-whole-eq0
unfolding mixed
returns-then-whole-eq0 c =
    rw (ne_eqb _ 0 c.if-k-eq0.false, eq-eqb _ 0 c.if-whole-eq0.true) c.put_fraction.ensures

pub returns : goal.returns
unfolding mixed
returns c =
    rw (ne_eqb _ 0 c.if-k-eq0.false, ne_eqb _ 0 c.if-whole-eq0.false) (adds_then _ _ (adds_then _ _ c.put_number-2.ensures c.put_byte.ensures) c.put_fraction-2.ensures)
