-- Keys of coordinates, which say where two vertices are at one place for dfm.rs. Definitions only.
-- The scale is a parameter: segments have one, and bodies another.
use Rattle.std.specs.Prelude.{Bool, false, ◌&&◌, eqb, ℤ, pos, negsuc, Float}
use Rattle.std.specs.Float.{binary64}
use Rattle.std.specs.Float.Ieee.{mul, of_bits}
use Rattle.num_real.specs.Rounding.{round_i64_of}
use Rattle.math.specs.declared.Vec3.{Vec3}

-- segments: "a key rounds coordinates times 1e4, halves away from zero"; the f64 1e4
abbrev pub segment_scale : Float
segment_scale = of_bits binary64 0x40c3_8800_0000_0000

-- bodies: "a common key, made from coordinates times 1e5"; the f64 1e5
abbrev pub body_scale : Float
body_scale = of_bits binary64 0x40f8_6a00_0000_0000

-- the key of a coordinate
unfoldable pub key_part : Float → Float → ℤ
key_part scale x = round_i64_of (mul binary64 x scale)

-- two whole numbers are equal
unfoldable pub same_int : ℤ → ℤ → Bool
same_int (pos m) (pos n) = eqb m n
same_int (pos m) (negsuc n) = false
same_int (negsuc m) (pos n) = false
same_int (negsuc m) (negsuc n) = eqb m n

-- two vertices have one key: the keys of their coordinates agree
unfoldable pub same_key_of : Float → Vec3 → Vec3 → Bool
same_key_of scale a b =
    same_int (key_part scale a.x) (key_part scale b.x)
    && same_int (key_part scale a.y) (key_part scale b.y)
    && same_int (key_part scale a.z) (key_part scale b.z)
