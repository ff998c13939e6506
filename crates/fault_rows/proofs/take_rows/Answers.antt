-- `fault_rows::take_rows` meets its contract.
use Rattle.std.proofs.Common.{◌≡◌, subst, ◌<◌, ℕ, List, length, get_or, Float, arith}
use Rattle.std.proofs.lemmas.List.{get_or_default}
use Rattle.fault_row.specs.declared.row.FaultRow.{FaultRow}
use Rattle.fault_row.specs.Row.{row_room, RowPut}
use native.Mathlib.Nat.{lt_of_lt_of_le}
use Rattle.fault_rows.specs.Rows.{Taken, row_in, zero_row_of}
use Rattle.fault_rows.proofs.RowsLaws.{taken_none, taken_one}
use Rattle.fault_rows.proofs.take_rows.Goals as goal

-- at most 2,048 rows are lent
few_rows : (k cells numbers : ℕ) → k < row_room cells numbers → k < 4294967296
unfolding row_room
few_rows k cells numbers h = omega (arith, h)

-- a row that stands in the slice, whatever a read past its end would give
stands : (rows : List FaultRow) (i r : ℕ) (d : FaultRow) (cells cells' : List ℕ) (numbers numbers' : List Float) → i < length rows →
    RowPut i (get_or rows i d) cells cells' numbers numbers' r → RowPut i (row_in rows i) cells cells' numbers numbers' r
stands rows i r d cells cells' numbers numbers' low put =
    subst (λ (w : FaultRow). RowPut i w cells cells' numbers numbers' r) (get_or_default rows i d zero_row_of low) put

pub loop-i-init : goal.loop-i-init
loop-i-init c = taken_none _ _ _

pub put_row-requires : goal.put_row-requires
put_row-requires c = few_rows _ _ _ (lt_of_lt_of_le c.loop-i-test.true c.requires.1)

pub loop-i-preserved : goal.loop-i-preserved
loop-i-preserved c =
    taken_one _ _ _ _ _ _ _ _ _ c.loop-i.invariant (lt_of_lt_of_le c.loop-i-test.true c.requires.1)
    (stands _ _ _ _ _ _ _ _ (lt_of_lt_of_le c.loop-i-test.true c.requires.0) c.put_row.ensures)

pub returns : goal.returns
returns c =
    let all : c.loop-i.i ≡ c.args.n = omega arith in
    subst (λ (k : ℕ). Taken c.args.rows.now k c.args.cells.now c.loop-i.cells c.args.numbers.now c.loop-i.numbers) all c.loop-i.invariant
