-- Flaws put as rows, one after another: what each rule leaves. Definitions only.
use Rattle.std.specs.Prelude.{◌≡◌, List, ℕ, ◌+◌, ◌*◌, ◌<◌, length, get_or, Float}
use Rattle.std.specs.Float.{nan}
use Rattle.list_laws.specs.Region.{Outside}
use Rattle.fault_row.specs.declared.flaw.Flaw.{Flaw}
use Rattle.fault_row.specs.declared.flaw.Flaw.TheVariants.{NoMaterial}
use Rattle.fault_row.specs.Row.{row_at_of, row_room}
use Rattle.fault_row.specs.Flaw.{row_of}

-- what is read past the end of a list of flaws
abbrev pub none : Flaw
none = NoMaterial

-- The flaws are put as the rows from number `from` on, where those are lent, and r is the number of rows then; `good` is what every flaw has to be to
-- be printed. "Faults are numbered from 0 in that order": row k is that of flaw k.
pub record FlawsPut (good : Flaw → Type 0) (from : ℕ) (flaws : List Flaw) (cells cells' : List ℕ) (numbers numbers' : List Float) (r : ℕ) : Type 0 where
  pub count : r ≡ from + length flaws
  pub each : (k : ℕ) → k < length flaws → from + k < row_room (length cells) (length numbers) → row_at_of cells' numbers' (from + k) ≡ row_of (get_or flaws k none)
  pub sound : (k : ℕ) → k < length flaws → good (get_or flaws k none)
  -- the rows before and the cells after them are as they were
  pub cells_kept : Outside 0 (6 * from) (6 * r) cells cells'
  pub numbers_kept : Outside nan (3 * from) (3 * r) numbers numbers'
