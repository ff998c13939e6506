-- What is smaller than a limit, by dfm.rs's tests `x + 1e-9 < limit`, is a number that the decimal writer takes.
use mathlib.Core.Path.{◌≡◌, refl, sym, ap, ◌∙◌, subst}
use mathlib.Core.Bool.{Bool, true, false, true≢false, ◌||◌, cond}
use mathlib.Core.Logic.{◌⊎◌, inl, inr}
use Prim.Native.Nat.{ℕ, ◌+◌, ◌*◌, ◌^◌, ◌≤◌, ◌<◌}
use native.Mathlib.Nat.{le_trans, le_of_lt, lt_irrefl, lt_of_le_of_lt, lt_of_lt_of_le, le_of_eq, mul_assoc, mul_right_comm, mul-le-mul_right, mul-pos, le-add_right}
use native.Mathlib.Omega.{arith}
use lib.IntN.{ℤ, pos, negsuc}
use lib.Dec.{T, lit<}
use lib.Ieee.{Float, nan, inf, fin, binary64, up, down, fits, round, sum, add, le, lt, eq, is_nan, of_bits}
use lib.Ieee.Fits.{down_pos}
use lib.Ieee.Scale.{finite}
use lib.Ieee.Positive.{num, den, den_pos}
use Rattle.num_float.specs.Sign.{NonNeg, plus_zero}
use Rattle.num_float.specs.Within.{Within}
use Rattle.num_float.proofs.Tests.{holds, lt_or_ge, or_false_left, or_false_right}
use Rattle.num_float.proofs.Line.{lt→<}
use Rattle.num_float.proofs.Order.{lt_le}
use Rattle.num_float.proofs.NonNegative.{as_fractions, nonneg_above, minus_nonneg, nonneg_plus, nonneg_zero, not_negative, size_lt, zero_finite, zero_is}
use Rattle.num_float.proofs.Sign.{add_nonneg}
use Rattle.num_float.proofs.Rounding.{finite_between}
use Rattle.num_float.proofs.Growth.{round_grows}
use Rattle.num_real.specs.Select.{max_of}
use Rattle.num_text.specs.Decimal.{accepted}
use Rattle.num_text.proofs.DecimalLaws.{from_zero, accepts}
use Rattle.num_text.proofs.NeverRefused.{accepted_at}
use Rattle.wall_ray.specs.Strike.{e_9}

-- 2 ^ 60
abbrev top : Float
top = fin false 1 (pos 60)

top_fits : T (fits binary64 top)
unfolding fits
top_fits = tt

-- ---- a sum of two numbers that are not negative, of which the first is at least 2 ^ 60, is at least 2 ^ 60
wide : (nx dx ny dy : ℕ) → 2 ^ 60 * dx ≤ nx → 1 * 2 ^ 60 * (dx * dy) ≤ (nx * dy + ny * dx) * 1
wide nx dx ny dy h =
    let one : 1 * 2 ^ 60 * (dx * dy) ≡ 2 ^ 60 * (dx * dy) = omega arith in
    let all : (nx * dy + ny * dx) * 1 ≡ nx * dy + ny * dx = omega arith in
    le_trans (le_of_eq (one ∙ sym (mul_assoc (2 ^ 60) dx dy))) (le_trans (mul-le-mul_right dy h) (le_trans (le-add_right (nx * dy) (ny * dx)) (le_of_eq (sym all))))

once : (z : ℕ) → 1 * 2 ^ 60 * z ≡ 2 ^ 60 * z
once z = omega arith

times_one : (z : ℕ) → z * 1 ≡ z
times_one z = omega arith

module _ (m : ℕ) (e : ℤ) (n : ℕ) (d : ℤ) where
  abbrev x : Float
  x = fin false m e

  abbrev y : Float
  y = fin false n d

  abbrev r : Float
  r = round binary64 false (num x * den y + num y * den x) (den x * den y)

  sum_is : add binary64 x y ≡ r
  sum_is = unfold add in unfold sum in refl

  sum_large : 2 ^ 60 * den x ≤ num x → T (finite (add binary64 x y)) → 2 ^ 60 * den (add binary64 x y) ≤ num (add binary64 x y)
  sum_large h k =
      subst (λ (z : Float). 2 ^ 60 * den z ≤ num z) (sym sum_is)
      (le_trans (le_of_eq (sym (once (den r))))
      (le_trans (round_grows top _ _ top_fits tt refl (mul-pos (den_pos x) (den_pos y)) (wide (num x) (den x) (num y) (den y) h) (subst (λ (z : Float). T (finite z)) sum_is k)) (le_of_eq (times_one (num r)))))

-- ---- x + 1e-9 < y where y is below 2 ^ 60
-- the fractions a / b < c / d of two floats, the first at least 2 ^ 60, and the second at most `most`
crossed : (a b c d most : ℕ) → 0 < b → 0 < d → a * d < c * b → 2 ^ 60 * b ≤ a → c ≤ most * d → most < 2 ^ 60 → ⊥
crossed a b c d most pb pd h low high small =
    let i : 2 ^ 60 * b * d ≤ a * d = mul-le-mul_right d low in
    let j : c * b ≤ most * d * b = mul-le-mul_right b high in
    let k : most * d * b ≤ 2 ^ 60 * d * b = mul-le-mul_right b (mul-le-mul_right d (le_of_lt small)) in
    let l : 2 ^ 60 * d * b ≡ 2 ^ 60 * b * d = mul_right_comm (2 ^ 60) d b in
    lt_irrefl _ (lt_of_le_of_lt i (lt_of_lt_of_le h (le_trans j (le_trans k (le_of_eq l)))))

finite_sum : (z y : Float) → NonNeg z → lt z y ≡ true → T (finite y) → T (finite z)
finite_sum z y n h f = finite_between plus_zero z y n (lt_le z y h) zero_finite f

nan_negative : NonNeg nan → ⊥
unfolding le lt eq of_bits
nan_negative h = holds h

infinite_sum : (s : Bool) (n : ℕ) (d : ℤ) → T (finite (add binary64 (inf s) (fin false n d))) → ⊥
unfolding add
infinite_sum s n d h = h

module _ (y : Float) (most : ℕ) (w : Within y most) (small : most < 2 ^ 60) (n : ℕ) (d : ℤ) where
  below_top : (x : Float) → NonNeg x → lt (add binary64 x (fin false n d)) y ≡ true → lt x top ≡ true
  below_top nan p h = absurd (nan_negative p)
  below_top (inf s) p h =
      absurd (infinite_sum s n d (finite_sum (add binary64 (inf s) (fin false n d)) y (add_nonneg (inf s) (fin false n d) p (nonneg_plus n d)) h w.is_finite))
  below_top (fin true m e) p h = size_lt true m e 1 (pos 60) (nothing (m * up e) (down e) (minus_nonneg true m e p tt) (down_pos e))
    where
      nothing : (a b : ℕ) → a ≡ 0 → 0 < b → a * 1 < 1 * 2 ^ 60 * b
      nothing a b z pb = subst (λ (k : ℕ). k * 1 < 1 * 2 ^ 60 * b) (sym z) (mul-pos (lit< tt) pb)
  below_top (fin false m e) p h = go (lt_or_ge (m * up e) (2 ^ 60 * down e))
    where
      go : (m * up e < 2 ^ 60 * down e) ⊎ (2 ^ 60 * down e ≤ m * up e) → lt (fin false m e) top ≡ true
      go (inl low) = size_lt false m e 1 (pos 60) (lt_of_le_of_lt (le_of_eq (times_one (m * up e))) (lt_of_lt_of_le low (le_of_eq (sym (once (down e))))))
      go (inr high) =
          let sum_nonneg : NonNeg (add binary64 (fin false m e) (fin false n d)) = add_nonneg (fin false m e) (fin false n d) p (nonneg_plus n d) in
          let sum-finite = finite_sum (add binary64 (fin false m e) (fin false n d)) y sum_nonneg h w.is_finite in
          let y-nonneg : NonNeg y = nonneg_above (add binary64 (fin false m e) (fin false n d)) y sum_nonneg (lt_le (add binary64 (fin false m e) (fin false n d)) y h) in
          absurd (crossed (num (add binary64 (fin false m e) (fin false n d))) (den (add binary64 (fin false m e) (fin false n d))) (num y) (den y) most
          (den_pos (add binary64 (fin false m e) (fin false n d))) (den_pos y)
          (lt→< (as_fractions (add binary64 (fin false m e) (fin false n d)) y sum-finite w.is_finite sum_nonneg y-nonneg) h)
          (sum_large m e n d high sum-finite) w.size small)

nan_is : is_nan nan ≡ true
unfolding is_nan
nan_is = refl

-- `1e-9` as a float
small_is : (x y : Float) → lt (add binary64 x e_9) y ≡ true → lt (add binary64 x (fin false 4835703278458517 (negsuc 81))) y ≡ true
unfolding of_bits
small_is x y h = h

-- a number that is not negative, smaller than a limit below 2 ^ 60
pub limit_accepted : (x y : Float) (most : ℕ) → NonNeg x → lt (add binary64 x e_9) y ≡ true → Within y most → most < 2 ^ 60 → accepted x 2 ≡ true
limit_accepted x y most p h w small =
    accepts x 2 (holds (from_zero x true p)) (holds (below_top y most w small _ _ x p (small_is x y h))) (omega arith)

zero_accepted : accepted plus_zero 2 ≡ true
zero_accepted =
    subst (λ (z : Float). accepted z 2 ≡ true) (sym zero_is)
    (accepted_at (fin false 0 (pos 0)) 0 2 (nonneg_zero false (pos 0)) (record { is_finite = tt; size = omega arith }) (lit< tt) (omega arith))

-- `gap.max(0.0)`, of any gap that is smaller than a limit
pub gap_accepted : (x y : Float) (most : ℕ) → lt (add binary64 x e_9) y ≡ true → Within y most → most < 2 ^ 60 → accepted (max_of x plus_zero) 2 ≡ true
unfolding max_of
gap_accepted x y most h w small = go (is_nan x || lt x plus_zero) refl
  where
    go : (b : Bool) → is_nan x || lt x plus_zero ≡ b → accepted (cond b plus_zero x) 2 ≡ true
    go true e = zero_accepted
    go false e = limit_accepted x y most (kept (not_negative x (or_false_right (is_nan x) (lt x plus_zero) e))) h w small
      where
        kept : (x ≡ nan) ⊎ NonNeg x → NonNeg x
        kept (inl z) = absurd (true≢false (sym nan_is ∙ sym (ap is_nan z) ∙ or_false_left (is_nan x) (lt x plus_zero) e))
        kept (inr p) = p
