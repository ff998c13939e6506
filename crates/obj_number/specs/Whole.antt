-- Whole numbers, written as digits. Definitions only.
use Rattle.std.specs.Prelude.{Bool, true, not, ◌&&◌, cond, List, [], ◌∷◌, ℕ, ◌+◌, ◌-◌, ◌*◌, ◌^◌, min, leb, eqb, length, Option, Some, None}

-- 48 is the byte of 0, 57 that of 9
unfoldable pub is_digit : ℕ → Bool
is_digit b = leb 48 b && leb b 57

-- "digits alone"
unfoldable pub all_digits : List ℕ → Bool
unfolding is_digit
all_digits [] = true
all_digits (b ∷ l) = is_digit b && all_digits l

-- the number that digits give after those of n
unfoldable pub value_from : ℕ → List ℕ → ℕ
value_from n [] = n
value_from n (b ∷ l) = value_from (n * 10 + (b - 48)) l

-- "leading zeros allowed"
unfoldable pub value_of : List ℕ → ℕ
unfolding value_from
value_of l = value_from 0 l

-- "Vertex and face numbers are digits alone": there is one at least
unfoldable pub is_whole : List ℕ → Bool
unfolding all_digits
is_whole l = not (eqb (length l) 0) && all_digits l

-- ---- the answers of the code
-- A number of any length is told by its value up to 2 ^ 63, and more counts as that.
unfoldable pub capped : ℕ → ℕ
capped n = min n (2 ^ 63)

-- digits that follow those of n
unfoldable pub digits_field : ℕ → List ℕ → Option ℕ
unfolding all_digits value_from capped
digits_field n l = cond (all_digits l) (Some (capped (value_from n l))) None

unfoldable pub whole_field : List ℕ → Option ℕ
unfolding is_whole value_of capped
whole_field l = cond (is_whole l) (Some (capped (value_of l))) None
