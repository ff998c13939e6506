-- What laws speak of on the way; a reader may pass over it. Definitions only.
use Rattle.std.specs.Prelude.{ℕ, ◌+◌, ◌-◌, ◌*◌, ◌^◌, ◌≤◌, ◌<◌}
use Rattle.num_float.specs.Work.{Bounded}
use Rattle.num_error.specs.Exact.{scale}
use Rattle.num_error.specs.Work.{product_above, product_below}
use Rattle.math.specs.declared.Vec3.{Vec3}

-- ---- vectors
-- each component is an f64 that is finite, and at most b in size
pub record VecBounded (v : Vec3) (b : ℕ) : Type 0 where
  pub at_x : Bounded v.x b
  pub at_y : Bounded v.y b
  pub at_z : Bounded v.z b

-- the exact dot product of a and b, in units squared, is dot_above a b - dot_below a b
abbrev pub dot_above : Vec3 → Vec3 → ℕ
dot_above a b = product_above a.x b.x + product_above a.y b.y + product_above a.z b.z

abbrev pub dot_below : Vec3 → Vec3 → ℕ
dot_below a b = product_below a.x b.x + product_below a.y b.y + product_below a.z b.z

-- ---- the errors of a dot product whose products are at most k: of each product, at the scale 2^2148, and of its two sums, at 2^1074
abbrev pub product_error : ℕ → ℕ
product_error k = k * 2 ^ 2095 + 2 ^ 1073

abbrev pub first_error : ℕ → ℕ
first_error k = 2 * k * 2 ^ 1021 + 1

abbrev pub last_error : ℕ → ℕ
last_error k = 3 * k * 2 ^ 1021 + 1

-- of the whole, at the scale 2^2148, where the last sum is off by g
abbrev pub dot_error : ℕ → ℕ → ℕ
dot_error k g = product_error k + product_error k + first_error k * scale + product_error k + g * scale

-- these numbers bound the errors
pub record DotRoom (k : ℕ) : Type 0 where
  pub short : 3 * k < 2 ^ 53
  pub product : 1 * scale * (k * scale) + 2 ^ 52 * scale ≤ product_error k * 2 ^ 53
  pub first : k * scale + k * scale + 2 ^ 52 ≤ first_error k * 2 ^ 53
  pub last : 2 * k * scale + k * scale + 2 ^ 52 ≤ last_error k * 2 ^ 53

-- ---- the errors of t = (w - n . o) / (n . d), for n and d within 1, o within 10,002, w within 30,000 and n . d of at least 1 / least
-- w - n . o is within 60,006, and the rounded n . d at least 1 / (least + 1), so t is at most this
abbrev pub longest : ℕ → ℕ
longest least = 60006 * (least + 1)

-- of w - n . o, at the scale 2^2148
abbrev pub top_error : ℕ
top_error = dot_error 10002 (last_error 10002) + (60006 * 2 ^ 1021 + 1) * scale

-- of the quotient, times the denominator, at the scale 2^2148
abbrev pub quotient_error : ℕ
quotient_error = 60006 * 2 ^ 2095 + 3 * 2 ^ 1073

-- t times the part of the denominator's error that grows with the denominator
abbrev pub growing_error : ℕ
growing_error = 60007 * 2 ^ 2095

-- of all these, at the scale 2^3222
abbrev pub time_error : ℕ → ℕ
time_error least = longest least * scale * dot_error 1 (2 ^ 970) + growing_error * scale + quotient_error * scale + top_error * scale

-- of the last sum, t + e, at the scale 2^1074
abbrev pub sum_error : ℕ → ℕ
sum_error least = (longest least + 1) * 2 ^ 1021 + 1

-- what the errors leave room for: with a dot product of at least 1 / least, t + e is off by less than 1 / precision
pub record Room (least precision : ℕ) : Type 0 where
  pub some : 0 < least
  pub short : longest least + 1 < 2 ^ 53
  pub denominator : least * (least + 1) * dot_error 1 (last_error 1) ≤ scale * scale
  pub sum : longest least * scale + 1 * scale + 2 ^ 52 ≤ sum_error least * 2 ^ 53
  pub rest : scale - sum_error least * precision + sum_error least * precision ≤ scale
  pub error : time_error least * precision * least < scale * scale * (scale - sum_error least * precision)
