-- What private functions leave on the way; a reader may pass over it. Definitions only.
use Rattle.std.specs.Prelude.{◌≡◌, List, ℕ, ◌+◌, ◌≤◌, length, drop}
use Rattle.obj_number.specs.Cut.{before}

-- none of the first i is b
pub record NoneTo (b : ℕ) (l : List ℕ) (i : ℕ) : Type 0 where
  pub inside : i ≤ length l
  pub rest : i + length (before b (drop i l)) ≡ length (before b l)
