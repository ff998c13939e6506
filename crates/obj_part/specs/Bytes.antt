-- Fields of a part file as bytes, little-endian, as document 01's "The part file" lays them out. Definitions only.
use Rattle.std.specs.Prelude.{List, [], ◌∷◌, ◌++◌, ℕ, ◌+◌, ◌*◌, ◌/◌, ◌%◌, replicate, Float}
use Rattle.std.specs.Float.{binary64}
use Rattle.std.specs.Float.Ieee.{to_bits}
use Rattle.math.specs.declared.Vec3.{Vec3}

-- a u32
unfoldable pub le32 : ℕ → List ℕ
le32 n = n % 0x100 ∷ n / 0x100 % 0x100 ∷ n / 0x1_0000 % 0x100 ∷ n / 0x100_0000 % 0x100 ∷ []

-- a u64
unfoldable pub le64 : ℕ → List ℕ
unfolding le32
le64 n = le32 (n % 0x1_0000_0000) ++ le32 (n / 0x1_0000_0000)

-- an f64
unfoldable pub f64_bytes : Float → List ℕ
unfolding le64
f64_bytes x = le64 (to_bits binary64 x)

-- "V vertices of 24 bytes (three f64, mm)"
unfoldable pub vec_bytes : Vec3 → List ℕ
unfolding f64_bytes
vec_bytes v = f64_bytes v.x ++ (f64_bytes v.y ++ f64_bytes v.z)

-- "u32 feature, index, first vertex, vertex count, kind (0 plane, ..), zero", and seven f64 that a plane has no use for: "feature 1, all planes"
unfoldable pub entry_bytes : ℕ → ℕ → ℕ → List ℕ
unfolding le32
entry_bytes index first count = le32 1 ++ (le32 index ++ (le32 first ++ (le32 count ++ (le32 0 ++ (le32 0 ++ replicate 56 0)))))

-- "a trailer of 16 (u32: edition 1, V, P, and back = 80 × P + 144, ..)"
unfoldable pub trailer_bytes : ℕ → ℕ → List ℕ
unfolding le32
trailer_bytes v p = le32 1 ++ (le32 v ++ (le32 p ++ le32 (80 * p + 144)))
