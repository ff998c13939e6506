-- How the code finds the nearest number: v / 127 rounded, and v / (127 * 2 ^ s) by a division and a shift.
use mathlib.Core.Path.{◌≡◌, refl, ◌∙◌}
use Prim.Native.Nat.{ℕ, ◌+◌, ◌-◌, ◌*◌, ◌/◌, ◌%◌, ◌^◌, ◌≤◌, ◌<◌}
use native.Mathlib.Nat.{lt_of_not-le, mod-lt, div-add-mod', div-eq_of_lt-le}
use native.Mathlib.Decide.{dec_le}
use native.Mathlib.Omega.{arith}
use lib.Dec.{lit<}
use lib.Pow.{pow_pos}
use lib.Ieee.Nearest.{closest}
use Rattle.num_inch.specs.Nearest.{NearestEven}
use Rattle.num_inch.proofs.NearestLaws.{is_closest}
use Rattle.num_text.proofs.Rounding.{half_pos}
use Rattle.num_inch.proofs.BinaryLaws.{twice_half}

-- ---- a whole number times 320 / 127
pub whole_quotient : (n : ℕ) → 320 * (n / 127) + (320 * (n % 127) + 63) / 127 ≡ closest (320 * n) 127
whole_quotient n = is_closest (320 * n) 127 _ (lit< tt) (record { not_below = omega arith; not_above = omega arith; half_above = λ e. omega arith; half_below = λ e. omega arith })

-- ---- v / (127 m), m even
-- v is 127 q + r, and q is w m + R; u goes up
module _ (v q r w R half m u : ℕ) (v-is : q * 127 + r ≡ v) (few : r < 127) (q-is : w * m + R ≡ q) (rest : R < m) (twice : half * 2 ≡ m) (positive : 0 < half)
    (u-is : u ≡ (r + w % 2 + 127) / 128) where
  -- nothing goes up only where nothing is lost and w is even
  none : u ≤ 0 → (r ≡ 0) × (w % 2 ≡ 0)
  none h = omega arith

  one : u ≤ 1
  one = omega arith

  stays : q + (half - 1) + u < w * m + m → NearestEven v (127 * m) w
  stays h = go (dec_le u 0)
    where
      go : Dec (u ≤ 0) → NearestEven v (127 * m) w
      go (yes z) =
          let e = none z in
          record { not_below = omega arith; not_above = omega arith; half_above = λ f. e.1; half_below = λ f. e.1 }
      go (no z) =
          let up : u ≡ 1 = omega (arith, one) in
          let less : R < half = omega arith in
          record { not_below = omega arith; not_above = omega arith; half_above = λ f. omega arith; half_below = λ f. omega arith }

  carries : w * m + m ≤ q + (half - 1) + u → NearestEven v (127 * m) (w + 1)
  carries h = go (dec_le u 0) (dec_le (r + w % 2) 1)
    where
      go : Dec (u ≤ 0) → Dec (r + w % 2 ≤ 1) → NearestEven v (127 * m) (w + 1)
      go (yes z) k =
          let more : half < R = omega arith in
          record { not_below = omega arith; not_above = omega arith; half_above = λ f. omega arith; half_below = λ f. omega arith }
      go (no z) k =
          let up : u ≡ 1 = omega (arith, one) in
          let reached : half ≤ R = omega arith in
          record { not_below = omega arith; not_above = omega arith; half_above = λ f. omega arith; half_below = λ f. omega arith }

  pub quotient : (q + (half - 1) + u) / m ≡ closest v (127 * m)
  quotient =
      let pos : 0 < m = omega arith in
      let product : 0 < 127 * m = omega arith in
      go product (dec_le (w * m + m) (q + (half - 1) + u))
    where
      go : 0 < 127 * m → Dec (w * m + m ≤ q + (half - 1) + u) → (q + (half - 1) + u) / m ≡ closest v (127 * m)
      go p (no h) =
          let k : q + (half - 1) + u < (w + 1) * m = omega (arith, lt_of_not-le h) in
          div-eq_of_lt-le {k = w} m (omega arith) k ∙ is_closest v (127 * m) w p (stays (lt_of_not-le h))
      go p (yes h) =
          let k : q + (half - 1) + u < (w + 1 + 1) * m = omega (arith, one) in
          div-eq_of_lt-le {k = w + 1} m (omega arith) k ∙ is_closest v (127 * m) (w + 1) p (carries h)

-- ---- as 64 bits have it
pub fraction_quotient : (v s : ℕ) → v < 2 ^ 63 → 0 < s → s < 64 → (v / 127 + (1 * 2 ^ (s - 1) % 2 ^ 64 - 1) + (v % 127 + v / 127 / 2 ^ s % 2 + 127) / 128) / 2 ^ s ≡ closest v (127 * 2 ^ s)
fraction_quotient v s small positive few =
    let q = v / 127 in
    quotient v q (v % 127) (q / 2 ^ s) (q % 2 ^ s) (1 * 2 ^ (s - 1) % 2 ^ 64) (2 ^ s) _ (div-add-mod' v 127) (mod-lt v (lit< tt)) (div-add-mod' q (2 ^ s)) (mod-lt q (pow_pos s)) (twice_half v s small positive few) (half_pos v s small positive few) refl
