-- A length in millimetres as inches and 64ths of an inch (document 02, item 8). Definitions only.
use Rattle.std.specs.Prelude.{◌&&◌, cond, List, [], ◌++◌, ℕ, zero, suc, ◌+◌, ◌*◌, ◌/◌, ◌%◌, ◌≤◌, eqb, Float}
use Rattle.std.specs.Float.Ieee.Nearest.{closest}
use Rattle.std.specs.Float.Ieee.Positive.{num, den}
use Rattle.num_text.specs.Put.{bytes}
use Rattle.num_text.specs.Number.{numeral}
use Rattle.num_text.specs.Decimal.{accepted}

-- ---- the number of 64ths
-- "The exact f64 in millimetres divided by 25.4 goes to the nearest 64th, an exact half to the even one": 25.4 is 127 / 5, so 64 x / 25.4 is
-- 320 x / 127, and the size of x is num / den. The sign plays no part, so that minus zero is zero. `NearestEven` says the same in words
-- (`nearest_64th`, `only_64th`)
unfoldable pub sixty_fourths : Float → ℕ
sixty_fourths x = closest (320 * num x) (127 * den x)

-- ---- the text
-- the greatest number up to g that divides both k and 64
unfoldable pub greatest : ℕ → ℕ → ℕ
greatest zero k = 1
greatest (suc g) k = cond (eqb (k % suc g) 0 && eqb (64 % suc g) 0) (suc g) (greatest g k)

-- "a fraction of 64ths in lowest terms": k / 64 is top k / bottom k (`fraction_value`), and no number but 1 divides both (`lowest_terms`)
unfoldable pub top : ℕ → ℕ
unfolding greatest
top k = k / greatest 64 k

unfoldable pub bottom : ℕ → ℕ
unfolding greatest
bottom k = 64 / greatest 64 k

unfoldable pub fraction : ℕ → List ℕ
unfolding top bottom numeral
fraction k = numeral (top k) ++ bytes "/" ++ numeral (bottom k)

-- w inches and k 64ths: "zero is `0 in`, a whole number has no fraction, and below one inch the whole number is left out"
unfoldable pub mixed : ℕ → ℕ → List ℕ
unfolding fraction numeral
mixed w k = cond (eqb k 0) (numeral w) (cond (eqb w 0) (fraction k) (numeral w ++ bytes " " ++ fraction k))

-- n 64ths: "a whole number and a fraction of 64ths in lowest terms, as `1 3/16 in`"
unfoldable pub inches : ℕ → List ℕ
unfolding mixed
inches n = mixed (n / 64) (n % 64) ++ bytes " in"

-- the length x mm, where it is a number that the decimal writer takes: finite, not negative, below 2 ^ 60; minus zero is one. Nothing is written of
-- another
unfoldable pub inch_text : Float → List ℕ
unfolding accepted inches sixty_fourths
inch_text x = cond (accepted x 0) (inches (sixty_fourths x)) []

-- ---- how near it is
-- "The written value is within 1/128 inch of the exact one": whole + top / bottom inches, and x = num / den mm, which is 5 num / (127 den) inches.
-- All is multiplied by 128 bottom 127 den. It holds of every f64 (`within_128th`)
pub record Within128th (x : Float) (whole top bottom : ℕ) : Type 0 where
  pub at_most : 128 * (whole * bottom + top) * (127 * den x) ≤ 128 * bottom * (5 * num x) + bottom * (127 * den x)
  pub at_least : 128 * bottom * (5 * num x) ≤ 128 * (whole * bottom + top) * (127 * den x) + bottom * (127 * den x)
