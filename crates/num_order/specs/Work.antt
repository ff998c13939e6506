-- What laws speak of on the way; a reader may pass over it. Definitions only.
use Rattle.std.specs.Prelude.{Bool, true, false, ℕ, ◌<◌, ◌+◌, ◌*◌, ◌≤◌, ℤ, Float}
use Rattle.std.specs.Float.{inf, fin}
use Rattle.std.specs.Float.Ieee.{le}

-- ---- what a factor does to the order
-- x is at most y; where the factor is negative, at least
unfoldable pub sided : Bool → Float → Float → Bool
sided false x y = le x y
sided true x y = le y x

-- i is a number other than zero
pub data NonZero : Float → Type 0 where
  infinite : (u : Bool) → NonZero (inf u)
  number : (u : Bool) (k : ℕ) (g : ℤ) → 0 < k → NonZero (fin u k g)

-- ---- the order of fractions with a sign, ±a / c
-- the part of ±a above zero, and the part below
abbrev pub over : Bool → ℕ → ℕ
over false a = a
over true a = 0

abbrev pub under : Bool → ℕ → ℕ
under false a = 0
under true a = a

-- ±a / c is at most ±b / d
abbrev pub AtMost : Bool → ℕ → ℕ → Bool → ℕ → ℕ → Type 0
AtMost s a c t b d = over s a * d + under t b * c ≤ over t b * c + under s a * d
