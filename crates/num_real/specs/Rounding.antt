-- Rust's `round` and `ceil` of f64 with the casts of their results to whole numbers. Definitions only.
use Rattle.std.specs.Prelude.{Bool, true, false, cond, ℕ, ◌+◌, ◌-◌, ◌*◌, ◌/◌, ◌^◌, min, ℤ, pos, neg_ℤ, Float}
use Rattle.std.specs.Float.{nan, inf, fin}
use Rattle.std.specs.Float.Ieee.{up, down}

-- The fraction n / d to the nearest whole number, an exact half up.
unfoldable pub round_half_up : ℕ → ℕ → ℕ
round_half_up n d = (2 * n + d) / (2 * d)

-- The least whole number that is not below the fraction n / d.
unfoldable pub ceil_div : ℕ → ℕ → ℕ
ceil_div n d = (n + d - 1) / d

-- The whole number with a sign and a size, cut off at the ends of the range of i64, -2^63 and 2^63 - 1.
unfoldable pub saturate_i64 : Bool → ℕ → ℤ
saturate_i64 true n = neg_ℤ (pos (min n (2 ^ 63)))
saturate_i64 false n = pos (min n (2 ^ 63 - 1))

-- `x.round() as i64`. The size of a finite x is rounded and its sign stays, so that halves go away from zero
-- (document 01, "rounds coordinates times 1e4, halves away from zero"). An infinity gives an end of the range, a NaN 0.
unfoldable pub round_i64_of : Float → ℤ
unfolding round_half_up saturate_i64
round_i64_of nan = pos 0
round_i64_of (inf s) = saturate_i64 s (2 ^ 63)
round_i64_of (fin s m e) = saturate_i64 s (round_half_up (m * up e) (down e))

-- `x.ceil() as usize`, cut off at 0 and 2^64 - 1. A NaN gives 0.
unfoldable pub ceil_usize_of : Float → ℕ
unfolding ceil_div
ceil_usize_of nan = 0
ceil_usize_of (inf s) = cond s 0 (2 ^ 64 - 1)
ceil_usize_of (fin s m e) = cond s 0 (min (ceil_div (m * up e) (down e)) (2 ^ 64 - 1))
