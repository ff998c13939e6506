-- The squared length and the length of a vector (x, y, z), and its normalized components, as math.rs rounds them. Definitions only.
use Rattle.std.specs.Prelude.{cond, Float}
use Rattle.std.specs.Float.{binary64}
use Rattle.std.specs.Float.Ieee.{add, mul, div, lt, of_bits}
use Rattle.num_root.specs.Root.{root}

-- x * x + y * y + z * z; document 01: sums run x, y, z
abbrev pub squared : Float → Float → Float → Float
squared x y z = add binary64 (add binary64 (mul binary64 x x) (mul binary64 y y)) (mul binary64 z z)

-- its square root
abbrev pub length : Float → Float → Float → Float
length x y z = root (squared x y z)

-- the f64 1e-300
abbrev pub e_300 : Float
e_300 = of_bits binary64 0x01A56E1FC2F8F359

-- the component c of (x, y, z), normalized; document 01: `normalized` returns a vector shorter than 1e-300 unchanged
abbrev pub normalized : Float → Float → Float → Float → Float
normalized x y z c = cond (lt (length x y z) e_300) c (div binary64 c (length x y z))
