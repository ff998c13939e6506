-- Numbers and vectors at a place in a part file, little-endian. Definitions only. A byte past the end counts as 0.
use Rattle.std.specs.Prelude.{ℕ, ◌+◌, ◌*◌, List, get_or, Float}
use Rattle.std.specs.Float.{binary64}
use Rattle.std.specs.Float.Ieee.{of_bits}
use Rattle.math.specs.declared.Vec3.{Vec3}

-- the u32 of the four bytes at i
unfoldable pub u32_at : List ℕ → ℕ → ℕ
u32_at s i = get_or s i 0 + get_or s (i + 1) 0 * 0x100 + get_or s (i + 2) 0 * 0x1_0000 + get_or s (i + 3) 0 * 0x100_0000

-- the u64 of the eight bytes at i
unfoldable pub u64_at : List ℕ → ℕ → ℕ
u64_at s i = u32_at s i + u32_at s (i + 4) * 0x1_0000_0000

-- the f64 with that pattern; every NaN's pattern is the one NaN
unfoldable pub f64_at : List ℕ → ℕ → Float
f64_at s i = of_bits binary64 (u64_at s i)

-- three f64
unfoldable pub vec_at_of : List ℕ → ℕ → Vec3
vec_at_of s i = record { x = f64_at s i; y = f64_at s (i + 8); z = f64_at s (i + 16) }
