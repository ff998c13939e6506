-- Fault rows as structs in a lent slice. Definitions only.
use Rattle.std.specs.Prelude.{◌≡◌, List, ◌++◌, ℕ, zero, suc, ◌-◌, ◌*◌, ◌<◌, length, get_or, set, take, replicate, Float}
use Rattle.std.specs.Float.{nan, binary64}
use Rattle.std.specs.Float.Ieee.{of_bits}
use Rattle.list_laws.specs.Region.{Outside}
use Rattle.fault_row.specs.declared.row.FaultRow.{FaultRow}
use Rattle.fault_row.specs.Row.{row, row_at_of}

-- "A row of zeros is no fault"
abbrev pub zero_row_of : FaultRow
zero_row_of = row 0 0 0 0 0 0 (of_bits binary64 0) (of_bits binary64 0) (of_bits binary64 0)

-- row k; past the end there is no fault
abbrev pub row_in : List FaultRow → ℕ → FaultRow
row_in rows k = get_or rows k zero_row_of

-- a list with g 0, g 1, .. in its first n places
unfoldable pub painted : {X : Type 0} → (ℕ → X) → ℕ → List X → List X
painted g zero l = l
painted g (suc n) l = set (painted g n l) n (g n)

-- rows of which those from number `from` on are no faults
unfoldable pub wiped : ℕ → List FaultRow → List FaultRow
wiped from rows = take from rows ++ replicate (length rows - from) zero_row_of

-- The first n rows stand in the cells and numbers; what lies after those is as it was.
pub record Taken (rows : List FaultRow) (n : ℕ) (cells cells' : List ℕ) (numbers numbers' : List Float) : Type 0 where
  pub each : (k : ℕ) → k < n → row_at_of cells' numbers' k ≡ row_in rows k
  pub cells_kept : Outside 0 0 (6 * n) cells cells'
  pub numbers_kept : Outside nan 0 (3 * n) numbers numbers'
