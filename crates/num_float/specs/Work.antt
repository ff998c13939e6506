-- What private functions leave on the way; a reader may pass over it. Definitions only.
use Rattle.std.specs.Prelude.{cond, Bool, true, false, ◌≡◌, List, [], ◌∷◌, ℕ, ◌+◌, ◌-◌, ◌≤◌, ◌^◌, ◌*◌, ◌<◌, Float, T}
use Rattle.std.specs.Float.Ieee.{lt, fits, add}
use Rattle.std.specs.Float.{nan, inf, fin, binary64}
use Rattle.num_float.specs.Units.{units, minus_sign}
use Rattle.num_float.specs.Within.{Within}
use Rattle.num_float.specs.Sign.{NonNeg}

-- ---- beside Order.antt
-- x where it is strictly greater, and else a
abbrev pub greater : Float → Float → Float
greater a x = cond (lt a x) x a

-- ---- beside Units.antt
-- x in units is above x - below x, and one of the two is 0
abbrev pub above : Float → ℕ
above x = cond (minus_sign x) 0 (units x)

abbrev pub below : Float → ℕ
below x = cond (minus_sign x) (units x) 0

-- how far apart two numbers are
abbrev pub gap : ℕ → ℕ → ℕ
gap a b = (a - b) + (b - a)

-- the differences a - b and c - d are at most e apart
abbrev pub Close : ℕ → ℕ → ℕ → ℕ → ℕ → Type 0
Close a b c d e = (a + d ≤ b + c + e) × (b + c ≤ a + d + e)

-- ---- one natural number for each f64, in the order of floats
-- where ±u stands on a line whose zero is at k
abbrev pub place : ℕ → Bool → ℕ → ℕ
place k false u = k + u
place k true u = k - u

-- where a float of u units stands, for u up to k: -infinity at 0, both zeros at k + 1, +infinity at 2 k + 2
abbrev pub position : ℕ → Float → ℕ → ℕ
position k nan u = 0
position k (inf true) u = 0
position k (inf false) u = k + k + 2
position k (fin s m e) u = place k s u + 1

-- every finite f64 is less than 2 ^ 2098 units of 2 ^ -1074 in size
unfoldable pub rank : Float → ℕ
rank x = position (2 ^ 2098) x (units x)

-- ---- beside Within.antt
-- x is an f64 that is finite, and at most b in size
pub record Bounded (x : Float) (b : ℕ) : Type 0 where
  pub fit : T (fits binary64 x)
  pub within : Within x b

-- an f64 holds the whole number b: it has at most 53 binary digits before its trailing zeros, and is below 2 ^ 1024
pub record Held (b : ℕ) : Type 0 where
  pub significand : ℕ
  pub exponent : ℕ
  pub is : b ≡ significand * 2 ^ exponent
  pub short : significand < 2 ^ 53
  pub below : b < 2 ^ 1024

-- ---- a running sum of floats
-- a, and each element added to it in turn, first to last
unfoldable pub total : Float → List Float → Float
total a [] = a
total a (x ∷ xs) = total (add binary64 a x) xs

-- each element is finite, and at most b in size
unfoldable pub AllWithin : List Float → ℕ → Type 0
AllWithin [] b = Unit {0}
AllWithin (x ∷ xs) b = Within x b × AllWithin xs b

-- no element is negative
unfoldable pub AllNonNeg : List Float → Type 0
AllNonNeg [] = Unit {0}
AllNonNeg (x ∷ xs) = NonNeg x × AllNonNeg xs
