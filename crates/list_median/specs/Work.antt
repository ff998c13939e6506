-- What private functions leave on the way; a reader may pass over it. Definitions only.
use Rattle.std.specs.Prelude.{List, ℕ, ◌*◌, ◌≤◌, length, Float}
use Rattle.list_sort.specs.Work.{Numbered, NoNan}

-- ---- beside Median.antt
-- the first n cells are numbers of pairs, with room for the sort after them, and none has a NaN for a value
pub record Pairs (values weights : List Float) (mem : List ℕ) (n : ℕ) : Type 0 where
  pub room : 2 * n ≤ length mem
  pub valued : Numbered values mem 0 n
  pub weighed : Numbered weights mem 0 n
  pub plain : NoNan values mem n
