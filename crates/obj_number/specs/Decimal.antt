-- Decimal numbers, and the f64 that each becomes. Definitions only.
use Rattle.std.specs.Prelude.{Bool, false, ◌&&◌, ◌||◌, cond, List, ◌++◌, ℕ, ◌^◌, leb, eqb, length, get_or, drop, Option, Some, None, Float}
use Rattle.std.specs.Float.{binary64}
use Rattle.std.specs.Float.Ieee.{round}
use Rattle.obj_number.specs.Cut.{before, after}
use Rattle.obj_number.specs.Whole.{all_digits, value_of}

-- ---- "optional sign": 43 is the byte of +, 45 that of -
unfoldable pub is_sign : ℕ → Bool
is_sign b = eqb b 43 || eqb b 45

unfoldable pub is_minus : List ℕ → Bool
is_minus l = eqb (get_or l 0 0) 45

-- the bytes after the sign
unfoldable pub unsigned : List ℕ → List ℕ
unfolding is_sign
unsigned l = drop (cond (is_sign (get_or l 0 0)) 1 0) l

-- ---- "at most one point anywhere": all bytes but the first point, 46, so that a second one is among them and is no digit
unfoldable pub digits_of : List ℕ → List ℕ
unfolding before after
digits_of l = before 46 l ++ after 46 l

-- "1 to 15 digits"
unfoldable pub is_unsigned : List ℕ → Bool
unfolding digits_of all_digits
is_unsigned l = leb 1 (length (digits_of l)) && leb (length (digits_of l)) 15 && all_digits (digits_of l)

unfoldable pub is_decimal : List ℕ → Bool
unfolding is_unsigned unsigned
is_decimal l = is_unsigned (unsigned l)

-- "A decimal becomes the nearest f64, ties to even; a zero keeps its sign": the digits over a power of ten, rounded once
unfoldable pub nearest_of : Bool → List ℕ → Float
unfolding digits_of after value_of
nearest_of minus l = round binary64 minus (value_of (digits_of l)) (10 ^ length (after 46 l))

unfoldable pub decimal_of : List ℕ → Float
unfolding nearest_of unsigned is_minus
decimal_of l = nearest_of (is_minus l) (unsigned l)

-- ---- the answers of the code
unfoldable pub unsigned_field : List ℕ → Option Float
unfolding is_unsigned nearest_of
unsigned_field l = cond (is_unsigned l) (Some (nearest_of false l)) None

unfoldable pub decimal_field : List ℕ → Option Float
unfolding is_decimal decimal_of
decimal_field l = cond (is_decimal l) (Some (decimal_of l)) None
