-- What the shifts of `round_size` and `ceil_size` compute, from the digits and the shift of a float.
use mathlib.Core.Path.{◌≡◌, sym, ap, ◌∙◌, subst}
use Prim.Native.Nat.{ℕ, ◌+◌, ◌-◌, ◌*◌, ◌/◌, ◌%◌, ◌^◌, ◌≤◌, ◌<◌}
use native.Mathlib.Nat.{le_trans, le_of_eq, le_of_lt, le_antisymm, lt_irrefl, lt_of_le_of_lt, lt_of_lt_of_le, lt_of_not-le, one-mul, mul-le-mul_right, lt_of_mul-lt-mul_right, mod-eq_of_lt, div-eq_of_lt}
use native.Mathlib.Omega.{arith}
use lib.Dec.{lit≤}
use lib.Pow.{pow_pos, pow_mono, pow-lt, pow-add}
use lib.Ieee.{Float}
use lib.Ieee.Positive.{num, den, den_pos, first_pos}
use Rattle.num_real.specs.Bits.{Decomposed}
use Rattle.num_real.specs.Rounding.{round_half_up, ceil_div}
use Rattle.num_real.proofs.BitsLaws.{whole_size, fraction_size}
use Rattle.num_real.proofs.FractionLaws.{round_whole, round_by_half, ceil_whole, ceil_same, ceil_by_less, ceil_at_most, ceil_not_below}

pow_lt_back : (i j : ℕ) → 2 ^ i < 2 ^ j → i < j
pow_lt_back i j h = lt_of_not-le (λ (g : j ≤ i). lt_irrefl (2 ^ i) (lt_of_lt_of_le h (pow_mono g)))

-- a power of two as the code has it, by a shift that could drop bits
shifted_one : (k : ℕ) → k < 64 → 1 * 2 ^ k % 2 ^ 64 ≡ 2 ^ k
shifted_one k h = ap (λ (p : ℕ). p % 2 ^ 64) (one-mul (2 ^ k)) ∙ mod-eq_of_lt (pow-lt h)

-- ---- a float of digits * 2 ^ shift / 2 ^ 1074
module _ (x : Float) (digits shift : ℕ) (D : Decomposed x digits shift) where
  -- a whole number below 2 ^ k
  module _ (k : ℕ) (K : k ≤ 64) (small : num x < 2 ^ k * den x) (up : 1074 ≤ shift) where
    whole_lt : digits * 2 ^ (shift - 1074) < 2 ^ k
    whole_lt = lt_of_mul-lt-mul_right (den x) (lt_of_le_of_lt (le_of_eq (sym (whole_size x digits shift D up))) small)

    pub shift_fits : shift - 1074 < 64
    shift_fits = lt_of_lt_of_le (pow_lt_back (shift - 1074) k (lt_of_le_of_lt grow whole_lt)) K
      where
        grow : 2 ^ (shift - 1074) ≤ digits * 2 ^ (shift - 1074)
        grow =
            le_trans (le_of_eq (sym (one-mul (2 ^ (shift - 1074)))))
            (mul-le-mul_right (2 ^ (shift - 1074)) (le_trans (lit≤ tt) (D.leading (omega arith))))

    shifted : digits * 2 ^ (shift - 1074) % 2 ^ 64 ≡ digits * 2 ^ (shift - 1074)
    shifted = mod-eq_of_lt (lt_of_lt_of_le whole_lt (pow_mono K))

    pub shifted_lt : digits * 2 ^ (shift - 1074) % 2 ^ 64 < 2 ^ k
    shifted_lt = subst (λ (n : ℕ). n < 2 ^ k) (sym shifted) whole_lt

    pub round_of_whole : digits * 2 ^ (shift - 1074) % 2 ^ 64 ≡ round_half_up (num x) (den x)
    round_of_whole =
        shifted
        ∙ sym (ap (λ (n : ℕ). round_half_up n (den x)) (whole_size x digits shift D up) ∙ round_whole (digits * 2 ^ (shift - 1074)) (den x) (den_pos x))

    pub ceil_of_whole : digits * 2 ^ (shift - 1074) % 2 ^ 64 ≡ ceil_div (num x) (den x)
    ceil_of_whole =
        shifted
        ∙ sym (ap (λ (n : ℕ). ceil_div n (den x)) (whole_size x digits shift D up) ∙ ceil_whole (digits * 2 ^ (shift - 1074)) (den x) (den_pos x))

  -- a fraction of digits / 2 ^ down
  module _ (down : ℕ) (e : down ≡ 1074 - shift) (frac : shift < 1074) where
    fraction : num x * 2 ^ down ≡ digits * den x
    fraction = ap (λ (k : ℕ). num x * 2 ^ k) e ∙ fraction_size x digits shift D (le_of_lt frac)

    twice : 2 ^ down ≡ 2 * 2 ^ (down - 1)
    twice = ap (λ (k : ℕ). 2 ^ k) (omega arith) ∙ pow-add 2 1 (down - 1)

    rounded : round_half_up (num x) (den x) ≡ (digits + 2 ^ (down - 1)) / 2 ^ down
    rounded =
        round_by_half (num x) (den x) digits (2 ^ (down - 1)) (den_pos x) (pow_pos (down - 1)) (ap (λ (k : ℕ). num x * k) (sym twice) ∙ fraction)
        ∙ ap (λ (k : ℕ). (digits + 2 ^ (down - 1)) / k) (sym twice)

    -- less than a half
    pub round_of_small : 54 ≤ down → 0 ≡ round_half_up (num x) (den x)
    round_of_small h =
        let small : digits < 2 ^ (down - 1) = lt_of_lt_of_le D.few (pow_mono {i = 53} {j = down - 1} (omega arith)) in
        sym (rounded ∙ div-eq_of_lt (lt_of_lt_of_le (sum_lt (2 ^ (down - 1)) small) (le_of_eq (sym twice))))
      where
        sum_lt : (h : ℕ) → digits < h → digits + h < 2 * h
        sum_lt h l = omega arith

    half_is : down < 54 → 1 * 2 ^ (down - 1) % 2 ^ 64 ≡ 2 ^ (down - 1)
    half_is h = shifted_one (down - 1) (omega arith)

    pub half_sum_lt : down < 54 → digits + 1 * 2 ^ (down - 1) % 2 ^ 64 < 2 ^ 63
    half_sum_lt h =
        let half : 2 ^ (down - 1) ≤ 2 ^ 53 = pow_mono {i = down - 1} {j = 53} (omega arith) in
        omega (arith, half_is h, D.few)

    pub round_of_fraction : down < 54 → (digits + 1 * 2 ^ (down - 1) % 2 ^ 64) / 2 ^ down ≡ round_half_up (num x) (den x)
    round_of_fraction h = ap (λ (k : ℕ). (digits + k) / 2 ^ down) (half_is h) ∙ sym rounded

    -- less than one, and not zero
    pub ceil_of_small : 0 < num x → 53 ≤ down → 1 ≡ ceil_div (num x) (den x)
    ceil_of_small p h =
        le_antisymm
        (first_pos (ceil_div (num x) (den x)) (den x) (lt_of_lt_of_le p (ceil_not_below (num x) (den x) (den_pos x))))
        (le_trans (le_of_eq (ceil_same (num x) (den x) digits (2 ^ down) (den_pos x) (pow_pos down) fraction))
        (ceil_at_most digits (2 ^ down) 1 (pow_pos down) (le_trans (le_of_lt small) (le_of_eq (sym (one-mul (2 ^ down)))))))
      where
        small : digits < 2 ^ down
        small = lt_of_lt_of_le D.few (pow_mono {i = 53} {j = down} (omega arith))

    one_is : down < 53 → 1 * 2 ^ down % 2 ^ 64 ≡ 2 ^ down
    one_is h = shifted_one down (omega arith)

    pub ceil_of_fraction : down < 53 → (digits + (1 * 2 ^ down % 2 ^ 64 - 1)) / 2 ^ down ≡ ceil_div (num x) (den x)
    ceil_of_fraction h =
        ap (λ (k : ℕ). (digits + (k - 1)) / 2 ^ down) (one_is h)
        ∙ sym (ceil_by_less (num x) (den x) digits (2 ^ down) (den_pos x) (pow_pos down) fraction)
