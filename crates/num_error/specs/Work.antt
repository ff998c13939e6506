-- What laws speak of on the way; a reader may pass over it. Definitions only.
use Rattle.std.specs.Prelude.{◌≡◌, ℕ, suc, ◌+◌, ◌*◌, ℤ, pos, negsuc, Float}
use Rattle.num_float.specs.Work.{above, below}

-- z is p - m
abbrev pub Is : ℤ → ℕ → ℕ → Type 0
Is (pos n) p m = p ≡ m + n
Is (negsuc n) p m = m ≡ p + suc n

-- the exact product of two floats, in units squared, is product_above - product_below
abbrev pub product_above : Float → Float → ℕ
product_above x y = above x * above y + below x * below y

abbrev pub product_below : Float → Float → ℕ
product_below x y = above x * below y + below x * above y
