-- Bounds on the size of a float. Definitions only.
use Rattle.std.specs.Prelude.{ℕ, ◌*◌, ◌≤◌, T, Float}
use Rattle.std.specs.Float.Ieee.Scale.{finite}
use Rattle.std.specs.Float.Ieee.Positive.{num, den}

-- x is finite, and at most b in size
pub record Within (x : Float) (b : ℕ) : Type 0 where
  pub is_finite : T (finite x)
  pub size : num x ≤ b * den x

-- x is finite, and at least 1 / b in size
pub record Beyond (x : Float) (b : ℕ) : Type 0 where
  pub is_finite : T (finite x)
  pub size : den x ≤ num x * b
