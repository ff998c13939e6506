-- `fault_row::row::put_row` meets its contract: nine stores where the row is lent, and nothing where it is not.
use mathlib.Core.Path.{refl}
use lib.ListN.{length-set}
use Rattle.fault_row.proofs.RowLaws.{cells_fit, numbers_fit, row_stored, row_lost}
use native.Mathlib.Omega.{arith}
use Rattle.fault_row.proofs.row.put_row.Goals as goal

pub returns-then-rows_lent-k : goal.returns-then-rows_lent-k
returns-then-rows_lent-k c = row_lost _ _ _ _ _ c.rows_lent.ensures c.if-rows_lent-k.true

pub bounds-cells-at : goal.bounds-cells-at
bounds-cells-at c = omega (arith, cells_fit _ _ _ _ c.rows_lent.ensures c.if-rows_lent-k.false)

pub bounds-cells-at-2 : goal.bounds-cells-at-2
bounds-cells-at-2 c = simp length-set (omega (arith, cells_fit _ _ _ _ c.rows_lent.ensures c.if-rows_lent-k.false))

pub bounds-cells-at-3 : goal.bounds-cells-at-3
bounds-cells-at-3 c = simp length-set (omega (arith, cells_fit _ _ _ _ c.rows_lent.ensures c.if-rows_lent-k.false))

pub bounds-cells-at-4 : goal.bounds-cells-at-4
bounds-cells-at-4 c = simp length-set (omega (arith, cells_fit _ _ _ _ c.rows_lent.ensures c.if-rows_lent-k.false))

pub bounds-cells-at-5 : goal.bounds-cells-at-5
bounds-cells-at-5 c = simp length-set (omega (arith, cells_fit _ _ _ _ c.rows_lent.ensures c.if-rows_lent-k.false))

pub bounds-cells-at-6 : goal.bounds-cells-at-6
bounds-cells-at-6 c = simp length-set (omega (arith, cells_fit _ _ _ _ c.rows_lent.ensures c.if-rows_lent-k.false))

pub bounds-numbers-number : goal.bounds-numbers-number
bounds-numbers-number c = omega (arith, numbers_fit _ _ _ _ c.rows_lent.ensures c.if-rows_lent-k.false)

pub bounds-numbers-number-2 : goal.bounds-numbers-number-2
bounds-numbers-number-2 c = simp length-set (omega (arith, numbers_fit _ _ _ _ c.rows_lent.ensures c.if-rows_lent-k.false))

pub bounds-numbers-number-3 : goal.bounds-numbers-number-3
bounds-numbers-number-3 c = simp length-set (omega (arith, numbers_fit _ _ _ _ c.rows_lent.ensures c.if-rows_lent-k.false))

pub shape_of-cells : goal.shape_of-cells
shape_of-cells c = simp length-set (refl)

pub shape_of-numbers : goal.shape_of-numbers
shape_of-numbers c = simp length-set (refl)

pub returns : goal.returns
returns c = row_stored _ _ _ _ _ c.rows_lent.ensures c.if-rows_lent-k.false
