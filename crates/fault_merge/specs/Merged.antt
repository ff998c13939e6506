-- What the work slice holds of each fault's line. Definitions only.
use Rattle.std.specs.Prelude.{◌≡◌, Bool, cond, List, ℕ, ◌+◌, ◌*◌, ◌<◌, get_or, Float}
use Rattle.list_laws.specs.Below.{sum_below, lowest_below}
use Rattle.file_part.specs.Part.{Part}
use Rattle.fault_row.specs.Row.{row_at_of}
use Rattle.fault_lines.specs.Line.{same_heading_of}
use Rattle.fault_merge.specs.Hash.{hash_of}
use Rattle.fault_merge.specs.Rows.{heading_at}

module _ (t : Part) (cells : List ℕ) (numbers : List Float) where
  -- faults k and i share a line
  unfoldable pub shares : ℕ → ℕ → Bool
  shares k i = same_heading_of (heading_at t cells numbers k) (heading_at t cells numbers i)

  -- the lowest fault on the line of fault i
  unfoldable pub lead_in : ℕ → ℕ
  lead_in i = lowest_below i (λ j. shares j i)

  -- the count of its line among n faults, and how many faults that has
  unfoldable pub count_in : ℕ → ℕ → ℕ
  count_in n i = sum_below n (λ k. cond (shares k i) (row_at_of cells numbers k).count 0)

  unfoldable pub members_in : ℕ → ℕ → ℕ
  members_in n i = sum_below n (λ k. cond (shares k i) 1 0)

  unfoldable pub Hashes : List ℕ → ℕ → Type 0
  Hashes work n = (j : ℕ) → j < n → get_or work (4 * j) 0 ≡ hash_of (heading_at t cells numbers j).text

  -- four cells for each of n faults
  pub record Merged (work : List ℕ) (n : ℕ) : Type 0 where
    pub hashes : Hashes work n
    pub leads : (j : ℕ) → j < n → get_or work (4 * j + 1) 0 ≡ lead_in j
    pub totals : (j : ℕ) → j < n → lead_in j ≡ j → get_or work (4 * j + 2) 0 ≡ count_in n j
    pub members : (j : ℕ) → j < n → lead_in j ≡ j → get_or work (4 * j + 3) 0 ≡ members_in n j
