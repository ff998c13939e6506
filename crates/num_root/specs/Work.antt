-- What private functions leave on the way; a reader may pass over it. Definitions only.
use Rattle.std.specs.Prelude.{◌≡◌, ℕ, ◌+◌, ◌-◌, ◌*◌, ◌^◌, ◌<◌, ◌≤◌, false, from_bits}
use Rattle.std.specs.Float.{binary64}
use Rattle.std.specs.Float.Ieee.{round}
use Rattle.num_root.specs.Root.{root, twice_root}

-- ---- what the steps of the root say of whole numbers
-- r is the whole number nearest the root of n: (r - 1/2)² < n < (r + 1/2)², multiplied out; a tie is impossible, since (r ± 1/2)² is no whole number
pub record Near (n r : ℕ) : Type 0 where
  pub below : r * r < n + r
  pub above : n ≤ r * r + r

-- what is said of a difference d that is out of range: 2 ^ 63 for a large one, 2 ^ 64 - 1 for one that wrapped
pub record OutOfRange (d r : ℕ) : Type 0 where
  pub large : d < 2 ^ 63 → r ≡ 2 ^ 63
  pub wrapped : 2 ^ 63 ≤ d → r ≡ 2 ^ 64 - 1

-- e is n - c * c where it is below 2 ^ 63; it is 2 ^ 63 where the difference is 2 ^ 62 or more, and above 2 ^ 63 where n is below c * c
pub record Excess (n c e : ℕ) : Type 0 where
  pub exact : e < 2 ^ 63 → c * c + e ≡ n
  pub far : e ≡ 2 ^ 63 → c * c + 2 ^ 62 ≤ n
  pub negative : 2 ^ 63 < e → n < c * c

-- the positive number with the pattern b is q * 2 ^ e / 2 ^ 2148, q having 53 digits; so its root is that of q * 2 ^ e, in units of 2 ^ -1074
pub record DigitsOf (b q e : ℕ) : Type 0 where
  pub root_is : root (from_bits binary64 b) ≡ round binary64 false (twice_root (q * 2 ^ e)) (2 ^ 1075)
  pub low : 2 ^ 52 ≤ q
  pub high : q < 2 ^ 53
  pub least : 1000 ≤ e
  pub most : e ≤ 3200
