-- The tests of single fields, by document 01's "Ranges". Definitions only.
use Rattle.std.specs.Prelude.{Bool, ◌&&◌, List, ℕ, ◌+◌, ◌*◌, eqb, Float}
use Rattle.std.specs.Float.{binary64}
use Rattle.std.specs.Float.Ieee.{of_bits, neg, le}
use Rattle.list_laws.specs.Below.{all_below}
use Rattle.math.specs.declared.Vec3.{Vec3}
use Rattle.math.specs.Vector.{length_sq_of}
use Rattle.file_field.specs.Field.{u64_at}

-- lo <= x and x <= hi, by value: minus zero passes where zero does, a NaN nowhere
unfoldable pub in_range : Float → Float → Float → Bool
in_range lo x hi = le lo x && le x hi

-- each component within plus and minus the most
unfoldable pub all_within : Vec3 → Float → Bool
all_within v most = in_range (neg most) v.x most && in_range (neg most) v.y most && in_range (neg most) v.z most

-- the f64 0.25, 2 and 4
abbrev pub quarter : Float
quarter = of_bits binary64 0x3fd0_0000_0000_0000

abbrev pub two : Float
two = of_bits binary64 0x4000_0000_0000_0000

abbrev pub four : Float
four = of_bits binary64 0x4010_0000_0000_0000

-- "direction and up have a squared length, as `length_sq` gives it, from 0.25 to 4, their components within ±2"
unfoldable pub is_direction : Vec3 → Bool
unfolding all_within in_range
is_direction v = all_within v two && in_range quarter (length_sq_of v) four

-- the f64 1e4
abbrev pub ten_thousand : Float
ten_thousand = of_bits binary64 0x40c3_8800_0000_0000

-- "coordinates and origins within ±1e4"
unfoldable pub is_point : Vec3 → Bool
unfolding all_within
is_point v = all_within v ten_thousand

-- the n words of eight bytes from i on are all zero bits
unfoldable pub zero_words : List ℕ → ℕ → ℕ → Bool
zero_words s i n = all_below n (λ k. eqb (u64_at s (i + 8 * k)) 0)
