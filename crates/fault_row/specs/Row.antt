-- Fault rows on plain number slices. Definitions only.
use Rattle.std.specs.Prelude.{◌≡◌, List, ℕ, ◌+◌, ◌*◌, ◌/◌, ◌≤◌, ◌<◌, min, length, get_or, Float}
use Rattle.std.specs.Float.{nan}
use Rattle.list_laws.specs.Region.{Outside}
use Rattle.fault_row.specs.declared.row.FaultRow.{FaultRow}

-- a row by its fields
abbrev pub row : ℕ → ℕ → ℕ → ℕ → ℕ → ℕ → Float → Float → Float → FaultRow
row kind severity count a b waived x y z =
    record { kind = kind; severity = severity; count = count; a = a; b = b; waived = waived; x = x; y = y; z = z }

-- row k: six cells and three numbers
unfoldable pub row_at_of : List ℕ → List Float → ℕ → FaultRow
row_at_of cells numbers k =
    row (get_or cells (6 * k) 0) (get_or cells (6 * k + 1) 0) (get_or cells (6 * k + 2) 0) (get_or cells (6 * k + 3) 0) (get_or cells (6 * k + 4) 0) (get_or cells (6 * k + 5) 0)
    (get_or numbers (3 * k) nan) (get_or numbers (3 * k + 1) nan) (get_or numbers (3 * k + 2) nan)

-- how many rows are lent: as many as both slices hold. 11: "more faults than fault rows lent, or over 2,048"
unfoldable pub row_room : ℕ → ℕ → ℕ
row_room cells numbers = min 2048 (min (cells / 6) (numbers / 3))

-- Row k is put, where it is lent; all else is as it was. r is the number of rows then.
pub record RowPut (k : ℕ) (row : FaultRow) (cells cells' : List ℕ) (numbers numbers' : List Float) (r : ℕ) : Type 0 where
  pub count : r ≡ k + 1
  pub stands : k < row_room (length cells) (length numbers) → row_at_of cells' numbers' k ≡ row
  pub cells_kept : Outside 0 (6 * k) (6 * k + 6) cells cells'
  pub numbers_kept : Outside nan (3 * k) (3 * k + 3) numbers numbers'
  -- a row that is not lent changes nothing
  pub cells_same : row_room (length cells) (length numbers) ≤ k → cells' ≡ cells
  pub numbers_same : row_room (length cells) (length numbers) ≤ k → numbers' ≡ numbers
