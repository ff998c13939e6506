-- A fraction of a power of 2, and half of a power of 2 in 64 bits.
-- The same as in Scaling.antt and Rounding.antt of num_text, where these are not public.
use mathlib.Core.Path.{◌≡◌, sym, ap, ◌∙◌}
use Prim.Native.Nat.{ℕ, suc, ◌-◌, ◌*◌, ◌%◌, ◌^◌, ◌≤◌, ◌<◌}
use native.Mathlib.Nat.{le_of_eq, lt_of_le_of_lt, mul_assoc, mul_right_comm, one-mul, lt_of_mul-lt-mul_right, eq_of_mul-eq-mul_right, mod-eq_of_lt, sub-add_cancel, pow-suc}
use native.Mathlib.Omega.{arith}
use lib.Pow.{pow_pos, pow-add, pow-lt}
use lib.Ieee.{Float}
use lib.Ieee.Positive.{num, den}
use Rattle.num_real.specs.Bits.{Decomposed}

-- ---- n / c is d * 2 ^ u / 2 ^ l
module _ (n c d u l : ℕ) (v : n * 2 ^ l ≡ d * 2 ^ u * c) where
  pub whole_number : l ≤ u → n ≡ d * 2 ^ (u - l) * c
  whole_number h =
      eq_of_mul-eq-mul_right (2 ^ l) (pow_pos l) n (d * 2 ^ (u - l) * c)
      (v
      ∙ ap (λ (k : ℕ). d * 2 ^ k * c) (sym (sub-add_cancel h))
      ∙ ap (λ (k : ℕ). d * k * c) (pow-add 2 (u - l) l)
      ∙ ap (λ (k : ℕ). k * c) (sym (mul_assoc d (2 ^ (u - l)) (2 ^ l)))
      ∙ mul_right_comm (d * 2 ^ (u - l)) (2 ^ l) c)

  pub fraction : u ≤ l → n * 2 ^ (l - u) ≡ d * c
  fraction h =
      eq_of_mul-eq-mul_right (2 ^ u) (pow_pos u) (n * 2 ^ (l - u)) (d * c)
      (mul_assoc n (2 ^ (l - u)) (2 ^ u)
      ∙ ap (λ (k : ℕ). n * k) (sym (pow-add 2 (l - u) u) ∙ ap (λ (k : ℕ). 2 ^ k) (sub-add_cancel h))
      ∙ v
      ∙ mul_right_comm d (2 ^ u) c)

-- a whole number below 2 ^ 60, from its binary digits
pub shifted_lt : (x : Float) (d u : ℕ) → Decomposed x d u → num x < 2 ^ 60 * den x → 1074 ≤ u → d * 2 ^ (u - 1074) < 2 ^ 60
shifted_lt x d u D within h = lt_of_mul-lt-mul_right (den x) (lt_of_le_of_lt (le_of_eq (sym (whole_number (num x) (den x) d u 1074 D.value h))) within)

-- ---- half of 2 ^ s, as 64 bits have it
module _ (v s : ℕ) (small : v < 2 ^ 63) (positive : 0 < s) (few : s < 64) where
  abbrev half : ℕ
  half = 1 * 2 ^ (s - 1) % 2 ^ 64

  half_is : half ≡ 2 ^ (s - 1)
  half_is =
      let less : s - 1 < 64 = omega arith in
      ap (λ (k : ℕ). k % 2 ^ 64) (one-mul (2 ^ (s - 1))) ∙ mod-eq_of_lt (pow-lt less)

  pub twice_half : half * 2 ≡ 2 ^ s
  twice_half =
      let more : suc (s - 1) ≡ s = omega arith in
      ap (λ (k : ℕ). k * 2) half_is ∙ sym (pow-suc 2 (s - 1)) ∙ ap (λ (k : ℕ). 2 ^ k) more
