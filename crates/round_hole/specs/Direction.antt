-- Holes by directions in whole numbers (document 01, replacement 3, as document 02, item 6, changes it). Definitions only.
use Rattle.std.specs.Prelude.{Bool, true, false, ◌&&◌, ◌||◌, cond, List, [], ◌∷◌, ltb, ℤ, pos, negsuc, ◌+ℤ◌, ◌-ℤ◌, ◌*ℤ◌, Float}
use Rattle.std.specs.Float.{binary64}
use Rattle.std.specs.Float.Ieee.{add, mul, div, lt, of_bits}
use Rattle.num_root.specs.Root.{root}
use Rattle.num_real.specs.Rounding.{round_i64_of}
use Rattle.round_hole.specs.declared.direction.Direction.{Direction}

-- the f64 1e-6
abbrev pub e_6 : Float
e_6 = of_bits binary64 0x3eb0_c6f7_a0b5_ed8d

-- the f64 2^20
abbrev pub scale : Float
scale = of_bits binary64 0x4130_0000_0000_0000

-- "offsets along x and y, divided by their length (the root of the sum of their squares)"
unfoldable pub length_of : Float → Float → Float
length_of x y = root (add binary64 (mul binary64 x x) (mul binary64 y y))

-- "divided by their length .. and times 2^20, are rounded, halves away from zero"
unfoldable pub whole_part_of : Float → Float → ℤ
whole_part_of x length = round_i64_of (mul binary64 (div binary64 x length) scale)

-- the direction of offsets x and y of this length
unfoldable pub direction_of : Float → Float → Float → Direction
direction_of x y length = record { u = whole_part_of x length; v = whole_part_of y length }

-- "A vertex nearer the axis than 1e-6 mm now gives no direction" (document 02, item 6); any other gives one
unfoldable pub offset_directions : Float → Float → List Direction
offset_directions x y = cond (lt (length_of x y) e_6) [] (direction_of x y (length_of x y) ∷ [])

-- ---- "0 < cross(a, b) and 100000 × cross(a, b) < 20271 × dot(a, b)"
unfoldable pub cross_of : Direction → Direction → ℤ
cross_of a b = (a.u *ℤ b.v) -ℤ (a.v *ℤ b.u)

unfoldable pub dot_of : Direction → Direction → ℤ
dot_of a b = (a.u *ℤ b.u) +ℤ (a.v *ℤ b.v)

-- a < b in whole numbers
unfoldable pub is_less : ℤ → ℤ → Bool
is_less (pos m) (pos n) = ltb m n
is_less (pos m) (negsuc n) = false
is_less (negsuc m) (pos n) = true
is_less (negsuc m) (negsuc n) = ltb n m

-- b follows a within the gap of 0.2 rad
unfoldable pub follows : Direction → Direction → Bool
follows a b = is_less (pos 0) (cross_of a b) && is_less (pos 100000 *ℤ cross_of a b) (pos 20271 *ℤ dot_of a b)

-- ---- "for every direction a some direction b"
unfoldable pub some_follows : Direction → List Direction → Bool
some_follows a [] = false
some_follows a (b ∷ bs) = follows a b || some_follows a bs

unfoldable pub all_followed : List Direction → List Direction → Bool
all_followed [] all = true
all_followed (a ∷ rest) all = some_follows a all && all_followed rest all

-- "A face with no direction left is not a hole" (document 02, item 6)
unfoldable pub goes_round_of : List Direction → Bool
goes_round_of [] = false
goes_round_of (a ∷ rest) = all_followed (a ∷ rest) (a ∷ rest)
