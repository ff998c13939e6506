-- The rank of an f64: a natural number with the same order.
use mathlib.Core.Path.{◌≡◌}
use mathlib.Core.Bool.{false}
use Prim.Native.Nat.{◌^◌}
use native.Mathlib.Nat.{le_of_lt}
use lib.Dec.{T}
use lib.Pow.{pow_pos}
use lib.Ieee.{Float, binary64, fits, is_nan}
use Rattle.num_float.specs.Units.{units}
use Rattle.num_float.specs.Work.{rank}
use Rattle.num_float.proofs.Line.{Agree, Counted, agree}
use Rattle.num_float.proofs.Units.{units_are, units_under}

counted : (x : Float) → T (fits binary64 x) → Counted (2 ^ 1074) (2 ^ 2098) x (units x)
counted x f = record { is = units_are x f; most = le_of_lt (units_under x f) }

-- two f64, neither a NaN, are ordered as their ranks; Line's lt→<, <→lt, le→≤ and others read it
pub ranked : (x y : Float) → T (fits binary64 x) → T (fits binary64 y) → is_nan x ≡ false → is_nan y ≡ false → Agree x y (rank x) (rank y)
unfolding rank
ranked x y f g nx ny = agree (2 ^ 1074) (2 ^ 2098) x y (units x) (units y) (pow_pos 1074) (counted x f) (counted y g) nx ny
