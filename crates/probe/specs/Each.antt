-- A function applied to each element of a slice. Definitions only.
use Rattle.std.specs.Prelude.{◌≡◌, List, ℕ, ◌<◌, length, get_or, Float}
use Rattle.std.specs.Float.{nan}

-- `after` has f of each element of `before`, in the same place, and nothing else
pub record Each (f : Float → Float) (before after : List Float) : Type 0 where
  pub same_length : length after ≡ length before
  pub at : (k : ℕ) → k < length before → get_or after k nan ≡ f (get_or before k nan)
