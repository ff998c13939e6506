-- Floats that are not negative. Definitions only.
use Rattle.std.specs.Prelude.{◌≡◌, true, Float}
use Rattle.std.specs.Float.{binary64}
use Rattle.std.specs.Float.Ieee.{le, of_bits}

-- the constant 0.0, as code has it
abbrev pub plus_zero : Float
plus_zero = of_bits binary64 0

-- 0.0 <= x: -0.0 passes, and NaN does not
abbrev pub NonNeg : Float → Type 0
NonNeg x = le plus_zero x ≡ true
