-- Whole numbers and thousandths as text. Definitions only.
use Rattle.std.specs.Prelude.{List, [], ◌∷◌, ◌++◌, Bool, true, false, cond, ℕ, zero, suc, ◌+◌, ◌-◌, ◌/◌, ◌%◌, eqb, ltb}

-- ---- digits
-- the k lowest digits of n in a base, the highest first; digit gives the byte of each
unfoldable pub positional : ℕ → (ℕ → ℕ) → ℕ → ℕ → List ℕ
positional base digit zero n = []
positional base digit (suc k) n = positional base digit k (n / base) ++ digit (n % base) ∷ []

-- 48 is the byte of 0
abbrev pub decimal_digit : ℕ → ℕ
decimal_digit d = 48 + d

-- 97 is the byte of a
unfoldable pub hex_digit : ℕ → ℕ
hex_digit d = cond (ltb d 10) (48 + d) (97 + (d - 10))

-- the k lowest decimal digits of n
abbrev pub digits : ℕ → ℕ → List ℕ
digits k n = positional 10 decimal_digit k n

-- "16 lower-case hexadecimal digits of the f64": n is its bit pattern
unfoldable pub hex16 : ℕ → List ℕ
unfolding positional hex_digit
hex16 n = positional 16 hex_digit 16 n

-- ---- whole numbers
-- how many decimal digits n has, 1 for 0. The first number limits the recursion, and n is enough; the Bool says whether n is below 10
unfoldable pub count : ℕ → Bool → ℕ → ℕ
count zero small n = 1
count (suc limit) true n = 1
count (suc limit) false n = suc (count limit (ltb (n / 10) 10) (n / 10))

unfoldable pub width : ℕ → ℕ
unfolding count
width n = count n (ltb n 10) n

-- n in decimal, with no zero in front
unfoldable pub numeral : ℕ → List ℕ
unfolding positional width
numeral n = digits (width n) n

-- ---- fractions
-- the point, 46, and a fraction's digits; nothing where there are none
unfoldable pub after_point : List ℕ → List ℕ
after_point [] = []
after_point (d ∷ ds) = 46 ∷ d ∷ ds

-- a digit in front of digits that end in no zero: a zero in front of none is dropped
unfoldable pub prepend : ℕ → List ℕ → List ℕ
prepend d [] = cond (eqb d 48) [] (d ∷ [])
prepend d (e ∷ es) = d ∷ e ∷ es

-- digits without the zeros at their end
unfoldable pub trim : List ℕ → List ℕ
unfolding prepend
trim [] = []
trim (d ∷ ds) = prepend d (trim ds)

-- n / 1000: "without trailing zeros: 1500 is 1.5"
unfoldable pub thousandths : ℕ → List ℕ
unfolding numeral after_point trim positional
thousandths n = numeral (n / 1000) ++ after_point (trim (digits 3 (n % 1000)))
