-- A float times 10 ^ places, to the nearest whole number, from its binary digits: digits * 2 ^ shift / 2 ^ 1074.
use mathlib.Core.Path.{◌≡◌, sym, ap, ◌∙◌}
use Prim.Native.Nat.{ℕ, zero-le, ◌-◌, ◌*◌, ◌/◌, ◌%◌, ◌^◌, ◌≤◌, ◌<◌}
use native.Mathlib.Nat.{le_trans, le_of_eq, le_of_lt, lt_of_le_of_lt, lt_of_lt_of_le, lt_of_not-le, lt_irrefl, mul_assoc, mul_right_comm, mul-one, one-mul, mul-le-mul, mul-le-mul_right, lt_of_mul-lt-mul_right, eq_of_mul-eq-mul_right, mod-eq_of_lt, mul-div_cancel, mul-mod_left, zero-div, zero-mod, pow-le-pow_right, sub-add_cancel}
use native.Mathlib.Omega.{arith}
use lib.Dec.{lit<, lit≤}
use lib.Pow.{pow_pos, pow_mono, pow-add}
use lib.Ieee.{Float}
use lib.Ieee.Nearest.{closest, closest_same}
use lib.Ieee.Positive.{num, den, den_pos}
use Rattle.num_real.specs.Bits.{Decomposed}
use Rattle.num_text.specs.Decimal.{scaled}
use Rattle.num_text.specs.Work.{Divided}
use Rattle.num_text.proofs.Rounding.{closest_whole, closest_zero}

-- ---- n / c is d * 2 ^ u / 2 ^ l
module _ (n c d u l : ℕ) (v : n * 2 ^ l ≡ d * 2 ^ u * c) where
  whole_number : l ≤ u → n ≡ d * 2 ^ (u - l) * c
  whole_number h =
      eq_of_mul-eq-mul_right (2 ^ l) (pow_pos l) n (d * 2 ^ (u - l) * c)
      (v
      ∙ ap (λ (k : ℕ). d * 2 ^ k * c) (sym (sub-add_cancel h))
      ∙ ap (λ (k : ℕ). d * k * c) (pow-add 2 (u - l) l)
      ∙ ap (λ (k : ℕ). k * c) (sym (mul_assoc d (2 ^ (u - l)) (2 ^ l)))
      ∙ mul_right_comm (d * 2 ^ (u - l)) (2 ^ l) c)

  fraction : u ≤ l → n * 2 ^ (l - u) ≡ d * c
  fraction h =
      eq_of_mul-eq-mul_right (2 ^ u) (pow_pos u) (n * 2 ^ (l - u)) (d * c)
      (mul_assoc n (2 ^ (l - u)) (2 ^ u)
      ∙ ap (λ (k : ℕ). n * k) (sym (pow-add 2 (l - u) u) ∙ ap (λ (k : ℕ). 2 ^ k) (sub-add_cancel h))
      ∙ v
      ∙ mul_right_comm d (2 ^ u) c)

pub power_pos : (p : ℕ) → 0 < 10 ^ p
power_pos p = lt_of_lt_of_le (lit< {m = 0} {n = 1} tt) (pow-le-pow_right (lit< tt) zero-le)

module _ (x : Float) (p d u : ℕ) (D : Decomposed x d u) (P : p ≤ 3) (within : num x < 2 ^ 60 * den x) where
  -- ---- a whole number
  shifted_lt : 1074 ≤ u → d * 2 ^ (u - 1074) < 2 ^ 60
  shifted_lt h = lt_of_mul-lt-mul_right (den x) (lt_of_le_of_lt (le_of_eq (sym (whole_number (num x) (den x) d u 1074 D.value h))) within)

  -- 2 ^ (u - 1074) is at most d times that, so below 2 ^ 60
  pub shift_small : 1074 ≤ u → u - 1074 < 64
  shift_small h =
      let positive : 0 < u = omega arith in
      let some : 1 ≤ d = le_trans (lit≤ tt) (D.leading positive) in
      let below : 2 ^ (u - 1074) < 2 ^ 60 = lt_of_le_of_lt (le_trans (le_of_eq (sym (one-mul (2 ^ (u - 1074))))) (mul-le-mul_right (2 ^ (u - 1074)) some)) (shifted_lt h) in
      let exponent : u - 1074 < 60 = lt_of_not-le (λ (g : 60 ≤ u - 1074). lt_irrefl (2 ^ (u - 1074)) (lt_of_lt_of_le below (pow_mono g))) in
      omega arith

  scaled_whole : 1074 ≤ u → scaled x p ≡ d * 2 ^ (u - 1074) * 10 ^ p
  unfolding scaled
  scaled_whole h =
      closest_same (num x * 10 ^ p) (den x) (d * 2 ^ (u - 1074) * 10 ^ p) 1 (den_pos x) (lit< tt)
      (mul-one (num x * 10 ^ p)
      ∙ ap (λ (k : ℕ). k * 10 ^ p) (whole_number (num x) (den x) d u 1074 D.value h)
      ∙ mul_right_comm (d * 2 ^ (u - 1074)) (den x) (10 ^ p))
      ∙ closest_whole (d * 2 ^ (u - 1074) * 10 ^ p)

  pub divided_whole : 1074 ≤ u → Divided (scaled x p) (10 ^ p) (d * 2 ^ (u - 1074) % 2 ^ 64) 0
  divided_whole h = record {
    quotient_is =
        mod-eq_of_lt (lt_of_lt_of_le (shifted_lt h) (lit≤ tt))
        ∙ sym (ap (λ (k : ℕ). k / 10 ^ p) (scaled_whole h) ∙ mul-div_cancel (d * 2 ^ (u - 1074)) (power_pos p));
    rest_is = sym (ap (λ (k : ℕ). k % 10 ^ p) (scaled_whole h) ∙ mul-mod_left (d * 2 ^ (u - 1074)) (10 ^ p));
  }

  -- ---- a fraction
  scaled_fraction : u < 1074 → scaled x p ≡ closest (d * 10 ^ p) (2 ^ (1074 - u))
  unfolding scaled
  scaled_fraction h =
      closest_same (num x * 10 ^ p) (den x) (d * 10 ^ p) (2 ^ (1074 - u)) (den_pos x) (pow_pos (1074 - u))
      (mul_right_comm (num x) (10 ^ p) (2 ^ (1074 - u))
      ∙ ap (λ (k : ℕ). k * 10 ^ p) (fraction (num x) (den x) d u 1074 D.value (le_of_lt h))
      ∙ mul_right_comm d (den x) (10 ^ p))

  product_le : d * 10 ^ p ≤ 2 ^ 53 * 1000
  product_le =
      let power : 10 ^ p ≤ 1000 = pow-le-pow_right (lit< tt) P in
      mul-le-mul (le_of_lt D.few) power

  pub product_lt : d * 10 ^ p < 2 ^ 63
  product_lt = lt_of_le_of_lt product_le (lit< tt)

  -- from 64 binary places on it is below a half
  pub divided_tiny : u < 1074 → 64 ≤ 1074 - u → Divided (scaled x p) (10 ^ p) 0 0
  divided_tiny h g =
      let tiny : d * 10 ^ p * 2 < 2 ^ 64 = lt_of_le_of_lt (mul-le-mul_right 2 product_le) (lit< tt) in
      let z : scaled x p ≡ 0 = scaled_fraction h ∙ closest_zero (d * 10 ^ p) (2 ^ (1074 - u)) (lt_of_lt_of_le tiny (pow_mono g)) in
      record { quotient_is = sym (ap (λ (k : ℕ). k / 10 ^ p) z ∙ zero-div (10 ^ p)); rest_is = sym (ap (λ (k : ℕ). k % 10 ^ p) z ∙ zero-mod (10 ^ p)) }

  pub divided_fraction : u < 1074 → (n t : ℕ) → t ≡ 10 ^ p → n ≡ closest (d * t) (2 ^ (1074 - u)) → Divided (scaled x p) (10 ^ p) (n / t) (n % t)
  divided_fraction h n t e q =
      let z : n ≡ scaled x p = q ∙ ap (λ (k : ℕ). closest (d * k) (2 ^ (1074 - u))) e ∙ sym (scaled_fraction h) in
      record { quotient_is = ap (λ (k : ℕ). k / t) z ∙ ap (λ (k : ℕ). scaled x p / k) e; rest_is = ap (λ (k : ℕ). k % t) z ∙ ap (λ (k : ℕ). scaled x p % k) e }
