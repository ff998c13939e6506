-- The faults that fault rows hold. Definitions only.
use Rattle.std.specs.Prelude.{◌≡◌, List, ℕ, ◌+◌, ◌*◌, ◌≤◌, ◌<◌, length, Float}
use Rattle.file_part.specs.Part.{Part, part_of}
use Rattle.solid_faces.specs.Faces.{Checked}
use Rattle.fault_row.specs.declared.flaw.Flaw.{Flaw}
use Rattle.fault_row.specs.Names.{severity_rank, rule_rank}
use Rattle.fault_row.specs.Fault.{Heading}
use Rattle.fault_row.specs.Row.{row_at_of}
use Rattle.fault_row.specs.Flaw.{row_of, flaw_of}
use Rattle.fault_text.specs.Told.{told}
use Rattle.fault_text.specs.Good.{Good}

-- what the faults of one line have in common
abbrev pub heading_of : Part → Flaw → Heading
heading_of t f = (told t f).heading

-- the rank of a line: by severity, then by the name of the rule. There are 54
unfoldable pub rank_of : Heading → ℕ
rank_of h = severity_rank h.severity * 18 + rule_rank h.rule

-- of row i
unfoldable pub heading_at : Part → List ℕ → List Float → ℕ → Heading
heading_at t cells numbers i = heading_of t (flaw_of (row_at_of cells numbers i))

-- n fault rows of an accepted file's part
pub record Rows (s cells : List ℕ) (numbers : List Float) (n : ℕ) : Type 0 where
  pub checked : Checked s
  pub few : n ≤ 2048
  pub cells_long : 6 * n ≤ length cells
  pub numbers_long : 3 * n ≤ length numbers
  -- row k is that of a flaw that is printed
  pub kept : (k : ℕ) → k < n → row_at_of cells numbers k ≡ row_of (flaw_of (row_at_of cells numbers k))
  pub good : (k : ℕ) → k < n → Good (part_of s) (flaw_of (row_at_of cells numbers k))
