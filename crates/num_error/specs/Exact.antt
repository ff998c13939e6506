-- A finite f64 as a whole number: its exact value times 2^1074. Definitions only.
use Rattle.std.specs.Prelude.{cond, ℕ, ◌^◌, T, ℤ, pos, neg_ℤ, Float}
use Rattle.std.specs.Float.{binary64}
use Rattle.std.specs.Float.Ieee.{fits}
use Rattle.std.specs.Float.Ieee.Scale.{finite}
use Rattle.num_float.specs.Units.{units, minus_sign}

-- every finite f64 is a whole number of 2^-1074, the smallest positive one
abbrev pub scale : ℕ
scale = 2 ^ 1074

-- x times 2^1074: `exact_value` (proofs/Whole.antt) ties it to lib.Ieee's value; 0 for a NaN and an infinity
unfoldable pub exact : Float → ℤ
exact x = cond (minus_sign x) (neg_ℤ (pos (units x))) (pos (units x))

-- x is an f64, and neither a NaN nor an infinity
pub record Number (x : Float) : Type 0 where
  pub fit : T (fits binary64 x)
  pub is_finite : T (finite x)
