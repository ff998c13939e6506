-- What private functions leave on the way; a reader may pass over it. Definitions only.
use Rattle.std.specs.Prelude.{List, [], ◌∷◌, ◌++◌, ◌≡◌, ◌⊎◌, ℕ, zero, suc, ◌+◌, ◌*◌, ◌≤◌, ◌<◌, Float, get_or, length}
use Rattle.file_part.specs.Part.{Part}
use Rattle.fault_row.specs.declared.row.FaultRow.{FaultRow}
use Rattle.fault_row.specs.Fault.{Fault}
use Rattle.fault_row.specs.Row.{row_at_of}
use Rattle.fault_row.specs.Flaw.{not_closed}
use Rattle.fault_text.specs.Told.{fault_of}

-- ---- beside Rows.antt
-- the faults of the first n rows: row k is fault k
unfoldable pub faults_to : Part → List ℕ → List Float → ℕ → List Fault
faults_to t cells numbers zero = []
faults_to t cells numbers (suc n) = faults_to t cells numbers n ++ (fault_of t (row_at_of cells numbers n) ∷ [])

-- ---- how the cells of a fault are made
pub record Opened (old : List ℕ) (i hash lead : ℕ) (new : List ℕ) : Type 0 where
  pub hash_is : get_or new (4 * i) 0 ≡ hash
  pub lead_is : get_or new (4 * i + 1) 0 ≡ lead
  pub total_is : get_or new (4 * i + 2) 0 ≡ 0
  pub members_is : get_or new (4 * i + 3) 0 ≡ 0
  pub others : (k : ℕ) → (k < 4 * i) ⊎ (4 * i + 4 ≤ k) → get_or new k 0 ≡ get_or old k 0
  pub long : length new ≡ length old

pub record Added (old : List ℕ) (lead count : ℕ) (new : List ℕ) : Type 0 where
  pub total_is : get_or new (4 * lead + 2) 0 ≡ get_or old (4 * lead + 2) 0 + count
  pub members_is : get_or new (4 * lead + 3) 0 ≡ get_or old (4 * lead + 3) 0 + 1
  pub others : (k : ℕ) → (k < 4 * lead + 2) ⊎ (4 * lead + 4 ≤ k) → get_or new k 0 ≡ get_or old k 0
  pub long : length new ≡ length old

-- the cells before `from` are as they were
pub record Front (from : ℕ) (old new : List ℕ) : Type 0 where
  pub same : (k : ℕ) → k < from → get_or new k 0 ≡ get_or old k 0
  pub long : length new ≡ length old

-- two rows agree in all that severity, rule and text are made from
pub record SameRow (r s : FaultRow) : Type 0 where
  pub kind : r.kind ≡ s.kind
  pub severity : r.severity ≡ s.severity
  pub edges : r.kind ≡ not_closed → r.a ≡ s.a
  pub x : r.x ≡ s.x
  pub y : r.y ≡ s.y
  pub z : r.z ≡ s.z
