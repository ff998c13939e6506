-- What private functions leave on the way; a reader may pass over it. Definitions only.
use Rattle.std.specs.Prelude.{◌≡◌, List, ℕ, ◌+◌, ◌<◌, get_or}
use Rattle.list_laws.specs.Region.{Outside}

-- ---- the numbers below n stand from `at` on; all other cells are as they were
pub record NumbersPut (n at : ℕ) (old new : List ℕ) : Type 0 where
  pub each : (i : ℕ) → i < n → get_or new (at + i) 0 ≡ i
  pub kept : Outside 0 at (at + n) old new
