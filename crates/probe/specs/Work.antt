-- What the functions of this crate leave on the way. A reader may pass over it.
use Rattle.std.specs.Prelude.{◌≡◌, List, ℕ, ◌+◌, length}
use Rattle.list_laws.specs.Region.{part, Outside}

-- the cells from number a on are xs; all others are as they were
pub record Row {X : Type 0} (d : X) (a : ℕ) (xs old new : List X) : Type 0 where
  pub there : part a (a + length xs) new ≡ xs
  pub kept : Outside d a (a + length xs) old new
