-- The sizes of a thickness reading. Definitions only.
use Rattle.std.specs.Prelude.{◌≡◌, true, ◌^◌, Float}
use Rattle.std.specs.Float.Ieee.{lt}
use Rattle.num_float.specs.Sign.{NonNeg}
use Rattle.num_float.specs.Within.{Within, Beyond}
use Rattle.math.specs.Vector as vector

-- above zero, at most 2^17 and at least 2^-20: t from 0 to 120,012, and 1e-6
pub record ReadingBounds (x : Float) : Type 0 where
  pub within : Within x (2 ^ 17)
  pub beyond : Beyond x (2 ^ 20)
  pub nonneg : NonNeg x
  pub positive : lt vector.zero x ≡ true
