-- The vectors of math.rs over IEEE 754's binary64, each operation in the Rust's order. Definitions only.
use Rattle.std.specs.Prelude.{cond, Float}
use Rattle.std.specs.Float.{binary64}
use Rattle.std.specs.Float.Ieee.{add, sub, mul, div, neg, lt, of_bits}
use Rattle.num_norm.specs.Length.{squared, length, normalized}
use Rattle.num_real.specs.Select.{min_of, max_of, abs_of}
use Rattle.math.specs.declared.Vec3.{Vec3}

abbrev pub vec : Float → Float → Float → Vec3
vec a b c = record { x = a; y = b; z = c }

abbrev pub zero : Float
zero = of_bits binary64 0

abbrev pub one : Float
one = of_bits binary64 0x3ff0_0000_0000_0000

-- ---- "zero and unit vectors as associated constants"
unfoldable pub zero_vec : Vec3
zero_vec = vec zero zero zero

unfoldable pub x_vec : Vec3
x_vec = vec one zero zero

unfoldable pub y_vec : Vec3
y_vec = vec zero one zero

unfoldable pub z_vec : Vec3
z_vec = vec zero zero one

-- ---- operators, component by component
unfoldable pub plus : Vec3 → Vec3 → Vec3
plus a b = vec (add binary64 a.x b.x) (add binary64 a.y b.y) (add binary64 a.z b.z)

unfoldable pub minus : Vec3 → Vec3 → Vec3
minus a b = vec (sub binary64 a.x b.x) (sub binary64 a.y b.y) (sub binary64 a.z b.z)

unfoldable pub times : Vec3 → Float → Vec3
times a s = vec (mul binary64 a.x s) (mul binary64 a.y s) (mul binary64 a.z s)

-- "Whether a division divides or multiplies by an inverse is as math.rs has it": this one divides
unfoldable pub over : Vec3 → Float → Vec3
over a s = vec (div binary64 a.x s) (div binary64 a.y s) (div binary64 a.z s)

unfoldable pub opposite : Vec3 → Vec3
opposite a = vec (neg a.x) (neg a.y) (neg a.z)

-- ---- products. "Sums run x, y, z"
unfoldable pub dot_of : Vec3 → Vec3 → Float
dot_of a b = add binary64 (add binary64 (mul binary64 a.x b.x) (mul binary64 a.y b.y)) (mul binary64 a.z b.z)

unfoldable pub cross_of : Vec3 → Vec3 → Vec3
cross_of a b =
    vec (sub binary64 (mul binary64 a.y b.z) (mul binary64 a.z b.y))
    (sub binary64 (mul binary64 a.z b.x) (mul binary64 a.x b.z))
    (sub binary64 (mul binary64 a.x b.y) (mul binary64 a.y b.x))

-- ---- lengths
unfoldable pub length_sq_of : Vec3 → Float
length_sq_of a = squared a.x a.y a.z

unfoldable pub length_of : Vec3 → Float
length_of a = length a.x a.y a.z

unfoldable pub distance_of : Vec3 → Vec3 → Float
distance_of a b = length_of (minus a b)

-- "`normalized` returns a vector shorter than 1e-300 unchanged"
unfoldable pub normalized_of : Vec3 → Vec3
normalized_of a = vec (normalized a.x a.y a.z a.x) (normalized a.x a.y a.z a.y) (normalized a.x a.y a.z a.z)

-- the f64 0.9
abbrev pub nine_tenths : Float
nine_tenths = of_bits binary64 0x3feccccccccccccd

-- some vector perpendicular to a: across the x axis, or across the y axis where a leans towards x
unfoldable pub perpendicular_of : Vec3 → Vec3
perpendicular_of a = normalized_of (cross_of a (cond (lt (abs_of a.x) nine_tenths) x_vec y_vec))

-- ---- the lower and the higher of two, component by component
unfoldable pub low_of : Vec3 → Vec3 → Vec3
low_of a b = vec (min_of a.x b.x) (min_of a.y b.y) (min_of a.z b.z)

unfoldable pub high_of : Vec3 → Vec3 → Vec3
high_of a b = vec (max_of a.x b.x) (max_of a.y b.y) (max_of a.z b.z)
