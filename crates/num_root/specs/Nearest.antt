-- The square root as a statement to believe: the f64 nearest the exact root, with no rounding in it.
use Rattle.std.specs.Prelude.{◌≡◌, zero, suc, ◌+◌, ◌*◌, ◌^◌, ◌<◌, true, false, cond, T, Float}
use Rattle.std.specs.Float.{nan, inf, fin, binary64}
use Rattle.std.specs.Float.Ieee.{fits}
use Rattle.std.specs.Float.Ieee.Scale.{finite}
use Rattle.num_float.specs.Units.{units, minus_sign}

-- y is a finite f64 with no minus sign
pub record Holds (y : Float) : Type 0 where
  pub held : T (fits binary64 y)
  pub number : T (finite y)
  pub plus : minus_sign y ≡ false

-- r is an f64, and every other one is further from the exact root of x.
-- In units of 2 ^ -1074, the smallest positive f64, the exact root is that of units x * 2 ^ 1074. A y above r is further from it than r is exactly where the middle, (r + y) / 2,
-- lies above the root; a y below r where the middle lies below it. Both sides are squared and multiplied by 4. Both are strict, so there is no tie.
-- A y with a minus sign is further than zero is.
pub record Nearest (x r : Float) : Type 0 where
  pub is : Holds r
  pub above : (y : Float) → Holds y → units r < units y → units x * 2 ^ 1074 * 4 < (units r + units y) * (units r + units y)
  pub below : (y : Float) → Holds y → units y < units r → (units r + units y) * (units r + units y) < units x * 2 ^ 1074 * 4

-- r is the square root of x: nearest for a number above zero; zero with its sign; infinity; and NaN for NaN and for what is below zero
unfoldable pub SquareRoot : Float → Float → Type 0
SquareRoot nan r = r ≡ nan
SquareRoot (inf s) r = r ≡ cond s nan (inf false)
SquareRoot (fin s zero e) r = r ≡ fin s zero e
SquareRoot (fin true (suc m) e) r = r ≡ nan
SquareRoot (fin false (suc m) e) r = Nearest (fin false (suc m) e) r
