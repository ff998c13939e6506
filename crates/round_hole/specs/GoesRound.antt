-- What `goes_round_of` says, with nothing computed. Definitions only.
use Rattle.std.specs.Prelude.{◌≡◌, true}
use mathlib.Core.List.{List, Memᴰ}
use Rattle.round_hole.specs.declared.direction.Direction.{Direction}
use Rattle.round_hole.specs.Direction.{follows}

-- some direction of all follows a
pub record Followed (all : List Direction) (a : Direction) : Type 0 where
  pub next : Direction
  pub among : Memᴰ next all
  pub is : follows a next ≡ true

-- there is a direction, and "for every direction a some direction b"
pub record GoesRound (all : List Direction) : Type 0 where
  pub one : Direction
  pub there : Memᴰ one all
  pub each : (a : Direction) → Memᴰ a all → Followed all a
