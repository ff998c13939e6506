-- A float's size as a whole number of binary digits. Definitions only.
use Rattle.std.specs.Prelude.{◌≡◌, ℕ, ◌*◌, ◌^◌, ◌<◌, ◌≤◌, Float}
use Rattle.std.specs.Float.Ieee.Positive.{num, den}

-- The size of x, num / den, is digits * 2 ^ shift / 2 ^ 1074, with at most 53 binary digits, and all 53 where shift is not 0.
-- One pair of numbers has these properties. An infinity and a NaN have num = 0, so their pair is that of zero.
pub record Decomposed (x : Float) (digits shift : ℕ) : Type 0 where
  pub value : num x * 2 ^ 1074 ≡ digits * 2 ^ shift * den x
  pub few : digits < 2 ^ 53
  pub leading : 0 < shift → 2 ^ 52 ≤ digits
  pub low : shift < 2046
