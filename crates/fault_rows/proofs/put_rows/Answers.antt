-- `fault_rows::put_rows` meets its contract.
use Rattle.std.proofs.Common.{◌≡◌, refl, sym, ◌∙◌, ap, ℕ, arith}
use native.Mathlib.Nat.{lt_of_lt_of_le}
use Rattle.fault_row.specs.Row.{row_at_of}
use Rattle.fault_row.proofs.RowLaws.{cells_fit, numbers_fit}
use Rattle.fault_rows.specs.Rows.{painted}
use Rattle.fault_rows.proofs.RowsLaws.{painted_none, painted_one}
use Rattle.fault_rows.proofs.put_rows.Goals as goal

pub loop-i-init : goal.loop-i-init
loop-i-init c = sym (painted_none _ _)

pub loop-i-preserved : goal.loop-i-preserved
loop-i-preserved c = rw (c.row_at.ensures, c.loop-i.invariant) (painted_one _ _ _)

pub row_at-requires-clause-fact_1 : goal.row_at-requires-clause-fact_1
row_at-requires-clause-fact_1 c = cells_fit _ _ _ _ refl (lt_of_lt_of_le c.loop-i-test.true c.requires.1)

pub row_at-requires-clause-fact_2 : goal.row_at-requires-clause-fact_2
row_at-requires-clause-fact_2 c = numbers_fit _ _ _ _ refl (lt_of_lt_of_le c.loop-i-test.true c.requires.1)

pub returns : goal.returns
returns c =
    let all : c.loop-i.i ≡ c.args.n = omega arith in
    c.loop-i.invariant ∙ ap (λ (k : ℕ). painted (row_at_of c.args.cells.now c.args.numbers.now) k c.args.rows.now) all
