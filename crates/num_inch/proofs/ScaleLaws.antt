-- 320 x / 127 from the binary digits of x: digits * 2 ^ shift / 2 ^ 1074.
use mathlib.Core.Path.{◌≡◌, sym, ap, ◌∙◌, subst}
use Prim.Native.Nat.{ℕ, zero-le, ◌-◌, ◌*◌, ◌%◌, ◌^◌, ◌≤◌, ◌<◌}
use native.Mathlib.Nat.{le_of_lt, lt_of_lt_of_le, mod-eq_of_lt}
use native.Mathlib.Omega.{arith}
use lib.Dec.{lit<, lit≤}
use lib.Pow.{pow_pos, pow_mono}
use lib.Ieee.{Float}
use lib.Ieee.Nearest.{closest, closest_same}
use lib.Ieee.Positive.{num, den, den_pos}
use Rattle.num_real.specs.Bits.{Decomposed}
use Rattle.num_text.proofs.Rounding.{closest_zero}
use Rattle.num_text.proofs.Scaling.{shift_small}
use Rattle.num_inch.proofs.BinaryLaws.{whole_number, fraction, shifted_lt}
use Rattle.num_inch.specs.Inch.{sixty_fourths}

-- ---- 320 / 127 times that
times_whole : (n c w : ℕ) → n ≡ w * c → 320 * n * 127 ≡ 320 * w * (127 * c)
times_whole n c w e = subst (λ (k : ℕ). 320 * k * 127 ≡ 320 * w * (127 * c)) (sym e) regroup
  where
    regroup : 320 * (w * c) * 127 ≡ 320 * w * (127 * c)
    regroup = omega arith

times_fraction : (n c d w : ℕ) → n * w ≡ d * c → 320 * n * (127 * w) ≡ 320 * d * (127 * c)
times_fraction n c d w e = omega arith

127_times : (d : ℕ) → 0 < d → 0 < 127 * d
127_times d h = omega arith

module _ (x : Float) (d u : ℕ) (D : Decomposed x d u) where
  -- ---- a whole number
  module _ (within : num x < 2 ^ 60 * den x) (h : 1074 ≤ u) where
    value : num x ≡ d * 2 ^ (u - 1074) * den x
    value = whole_number (num x) (den x) d u 1074 D.value h

    below : d * 2 ^ (u - 1074) < 2 ^ 60
    below = shifted_lt x d u D within h

    pub shift_lt : u - 1074 < 64
    shift_lt = shift_small x 0 d u D zero-le within h

    shifted_is : d * 2 ^ (u - 1074) % 2 ^ 64 ≡ d * 2 ^ (u - 1074)
    shifted_is = mod-eq_of_lt (lt_of_lt_of_le below (lit≤ tt))

    pub whole_lt : d * 2 ^ (u - 1074) % 2 ^ 64 < 2 ^ 60
    whole_lt = subst (λ (k : ℕ). k < 2 ^ 60) (sym shifted_is) below

    pub whole_64ths : (r : ℕ) → r ≡ closest (320 * (d * 2 ^ (u - 1074) % 2 ^ 64)) 127 → r ≡ sixty_fourths x
    unfolding sixty_fourths
    whole_64ths r e =
        e
        ∙ ap (λ (k : ℕ). closest (320 * k) 127) shifted_is
        ∙ sym (closest_same (320 * num x) (127 * den x) (320 * (d * 2 ^ (u - 1074))) 127 (127_times (den x) (den_pos x)) (lit< tt) (times_whole (num x) (den x) (d * 2 ^ (u - 1074)) value))

  -- ---- a fraction
  pub product_lt : 320 * d < 2 ^ 63
  product_lt = times d D.few
    where
      times : (d : ℕ) → d < 9007199254740992 → 320 * d < 9223372036854775808
      times d h = omega arith

  module _ (h : u < 1074) where
    fraction_is : closest (320 * d) (127 * 2 ^ (1074 - u)) ≡ sixty_fourths x
    unfolding sixty_fourths
    fraction_is =
        sym (closest_same (320 * num x) (127 * den x) (320 * d) (127 * 2 ^ (1074 - u)) (127_times (den x) (den_pos x)) (127_times (2 ^ (1074 - u)) (pow_pos (1074 - u)))
        (times_fraction (num x) (den x) d (2 ^ (1074 - u)) (fraction (num x) (den x) d u 1074 D.value (le_of_lt h))))

    pub fraction_64ths : (r : ℕ) → r ≡ closest (320 * d) (127 * 2 ^ (1074 - u)) → r ≡ sixty_fourths x
    fraction_64ths r e = e ∙ fraction_is

    -- from 56 binary places on it is below a half
    pub tiny_64ths : 56 ≤ 1074 - u → 0 ≡ sixty_fourths x
    tiny_64ths g = sym (closest_zero (320 * d) (127 * 2 ^ (1074 - u)) (small d (2 ^ (1074 - u)) D.few (pow_mono g))) ∙ fraction_is
      where
        small : (d p : ℕ) → d < 9007199254740992 → 72057594037927936 ≤ p → 320 * d * 2 < 127 * p
        small d p h k = omega arith
