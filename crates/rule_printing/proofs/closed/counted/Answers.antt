-- `rule_printing::closed::counted` meets its contract: by the test.
use mathlib.Core.Path.{sym}
use borrow.Author.Tests.{eq-eqb, ne_eqb}
use native.Mathlib.Omega.{arith}
use Rattle.rule_printing.proofs.closed.counted.Goals as goal

pub overflow_add-s : goal.overflow_add-s
overflow_add-s c = omega (arith, c.requires.fact_1)

pub overflow_add-result : goal.overflow_add-result
overflow_add-result c = omega (arith, c.requires.fact_2)

pub returns-then-pair-s : goal.returns-then-pair-s
returns-then-pair-s c = sym (rw (eq-eqb _ _ c.if-pair-s.true))

pub returns : goal.returns
returns c = sym (rw (ne_eqb _ _ c.if-pair-s.false))
