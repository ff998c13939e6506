-- What it is to be the nearest whole number to a fraction, in words. Definitions only.
use Rattle.std.specs.Prelude.{◌≡◌, ℕ, ◌+◌, ◌*◌, ◌%◌, ◌≤◌}

-- n is a nearest whole number to the fraction a / b, and the even one of two: a / b and n differ by at most a half, and n is even where they differ by
-- a half. All is multiplied by 2 b. Where b is not 0, one number is such (`nearest_unique`), and `closest a b` is (`closest_nearest`)
pub record NearestEven (a b n : ℕ) : Type 0 where
  -- a / b ≤ n + 1 / 2
  pub not_below : 2 * a ≤ 2 * (n * b) + b
  -- n ≤ a / b + 1 / 2
  pub not_above : 2 * (n * b) ≤ 2 * a + b
  -- halfway to the next number, and halfway from the one before
  pub half_above : 2 * a ≡ 2 * (n * b) + b → n % 2 ≡ 0
  pub half_below : 2 * (n * b) ≡ 2 * a + b → n % 2 ≡ 0
