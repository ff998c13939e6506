-- What private functions leave on the way; a reader may pass over it. Definitions only.
use Rattle.std.specs.Prelude.{List, ℕ, ◌+◌, ◌*◌, ◌≤◌, ◌<◌, length}
use Rattle.file_part.specs.math.specs.Size.{VecWithin}
use Rattle.file_part.specs.math.specs.declared.Vec3.{Vec3}
use Rattle.file_part.specs.file_field.specs.Field.{vec_at_of}

-- ---- beside Polygon.antt
-- the corners of the run that begins at vertex `first`
unfoldable pub corner_at : List ℕ → ℕ → ℕ → Vec3
corner_at s first k = vec_at_of s (24 * (first + k))

-- what is known of them in a file that is not turned back: the n vertices lie inside the file, and their "coordinates .. within ±1e4"
pub record Corners (s : List ℕ) (first n : ℕ) : Type 0 where
  pub inside : 24 * (first + n) ≤ length s
  pub each : (k : ℕ) → k < n → VecWithin (vec_at_of s (24 * (first + k))) 10000
