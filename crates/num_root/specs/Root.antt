-- The square root of an f64, as a definition that computes. Document 01: "The square root is the f64 nearest the exact root, ties
-- impossible, by the number's bits; minus zero stays, other negatives and NaN give hexadecimal 7FF8000000000000, infinity stays."
-- `Nearest.antt` says the same with no rounding in it, and proofs/Nearest.antt has the laws each way.
use Rattle.std.specs.Prelude.{ℕ, zero, suc, ◌+◌, ◌*◌, ◌/◌, ◌^◌, true, false, cond, ℤ, ◌==◌, nat_le, Float}
use Rattle.std.specs.Float.{nan, inf, fin, binary64}
use Rattle.std.specs.Float.Ieee.{up, down, size, round}

-- one binary digit more: of twice a root, itself or the next number
unfoldable pub next_digit : ℕ → ℕ → ℕ
next_digit n s = cond (nat_le (suc s * suc s) n) (suc s) s

-- the largest s with s * s ≤ n, for an n below 4 ^ k
unfoldable pub whole_root : ℕ → ℕ → ℕ
unfolding next_digit
whole_root zero n = 0
whole_root (suc k) n = next_digit n (whole_root k (n / 4) * 2)

-- Twice the root of n where that is an even number; else the odd number between the two even ones beside it. It lies on the same side of
-- every f64, and of the middle of every two, as twice the root does, so it rounds alike.
unfoldable pub twice_root : ℕ → ℕ
unfolding whole_root size
twice_root n = let s = whole_root (size n) n in s * 2 + cond (s * s == n) 0 1

-- m * 2 ^ e in units of the smallest f64, 2 ^ -1074, is a whole number n, and the root is that of n * 2 ^ 1074, in the same units
unfoldable pub root_of : ℕ → ℤ → Float
unfolding round twice_root
root_of m e = round binary64 false (twice_root (m * up e * 2 ^ 1074 / down e * 2 ^ 1074)) (2 ^ 1075)

-- the one NaN's pattern is 7FF8000000000000 (`to_bits`)
unfoldable pub root : Float → Float
unfolding root_of
root nan = nan
root (inf s) = cond s nan (inf false)
root (fin s zero e) = fin s zero e
root (fin true (suc m) e) = nan
root (fin false (suc m) e) = root_of (suc m) e
