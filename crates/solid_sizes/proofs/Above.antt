-- x + y for an x that is not negative, and x * y for an x of at least 1: no smaller than y, where y is above zero.
use mathlib.Core.Path.{◌≡◌, refl, sym, ap, ◌∙◌, subst}
use mathlib.Core.Bool.{Bool, true, false, not, cond}
use Prim.Native.Nat.{ℕ, ◌-◌, ◌*◌, ◌≤◌, ◌<◌}
use native.Mathlib.Nat.{le_trans, le_of_eq, le_of_mul-le-mul_right, mul-le-mul_left, mul-le-mul_right}
use native.Mathlib.Nat.{mul_assoc, mul_comm, mul_right_comm, mul-pos, mul-one, lt_irrefl, lt_of_lt_of_le}
use native.Mathlib.Omega.{arith}
use lib.Dec.{T, ltb, nltb→le}
use lib.Ieee.{Float, nan, inf, fin, binary64, up, down, fits, round, sum, add, mul, lt}
use lib.Ieee.Fits.{down_pos}
use lib.Ieee.Scale.{finite}
use lib.Ieee.Positive.{num, den, den_pos, first_pos}
use Rattle.num_float.specs.Sign.{plus_zero, NonNeg}
use Rattle.num_float.specs.Units.{minus_sign}
use Rattle.num_float.specs.Within.{Beyond}
use Rattle.num_float.proofs.Tests.{contrary}
use Rattle.num_float.proofs.NonNegative.{minus_nonneg, scaled_zero, num_above}
use Rattle.num_float.proofs.Growth.{round_grows, add_grows_right}

-- -0.0 + y, where y is b / c
zero_grows : (y : Float) (a b c : ℕ) → T (fits binary64 y) → T (finite y) → minus_sign y ≡ false → 0 < c → a ≡ 0 → 0 < b → num y * c ≤ b * den y →
    T (finite (sum binary64 true a false b c)) → num y * den (sum binary64 true a false b c) ≤ num (sum binary64 true a false b c) * den y
unfolding sum
zero_grows y a b c f n s C z p k h = go (ltb a b) (nltb→le a b) h
  where
    go : (v : Bool) → (T (not v) → b ≤ a) → T (finite (cond v (round binary64 false (b - a) c) (round binary64 (ltb b a) (a - b) c))) →
        num y * den (cond v (round binary64 false (b - a) c) (round binary64 (ltb b a) (a - b) c))
        ≤ num (cond v (round binary64 false (b - a) c) (round binary64 (ltb b a) (a - b) c)) * den y
    go true l h = round_grows y (b - a) c f n s C (subst (λ (i : ℕ). num y * c ≤ i * den y) (whole b a z) k) h
      where
        whole : (b a : ℕ) → a ≡ 0 → b ≡ b - a
        whole b a z = omega (arith, z)
    go false l h = let m = l tt in absurd (omega (arith, m, z, p))

-- how much r exceeds y, for an r that is no smaller
carry : (y r : Float) (B : ℕ) → T (finite r) → Beyond y B → num y * den r ≤ num r * den y → Beyond r B
carry y r B h w k = record { is_finite = h; size = le_of_mul-le-mul_right (go (num y) (den y) (num r) (den r) w.size k) (den_pos y) }
  where
    go : (m e i k : ℕ) → e ≤ m * B → m * k ≤ i * e → k * e ≤ i * B * e
    go m e i k a b =
        le_trans (mul-le-mul_left k a)
        (le_trans (le_of_eq (sym (mul_assoc k m B) ∙ ap (λ (j : ℕ). j * B) (mul_comm k m)))
        (le_trans (mul-le-mul_right B b) (le_of_eq (mul_right_comm i e B))))

-- ---- the sum
add_grows : (x y : Float) → T (finite x) → NonNeg x → T (finite y) → T (fits binary64 y) → minus_sign y ≡ false → 0 < num y →
    T (finite (add binary64 x y)) →
    num y * den (add binary64 x y) ≤ num (add binary64 x y) * den y
add_grows nan y p n q f s g h = absurd p
add_grows (inf t) y p n q f s g h = absurd p
add_grows (fin t m e) nan p n q f s g h = absurd q
add_grows (fin t m e) (inf u) p n q f s g h = absurd q
add_grows (fin t m e) (fin true k d) p n q f s g h = absurd (contrary refl s)
add_grows (fin false m e) (fin false k d) p n q f s g h = add_grows_right (fin false m e) (fin false k d) p q refl s h f
add_grows (fin true m e) (fin false k d) p n q f s g h =
    unfold add in
    zero_grows (fin false k d) (m * up e * down d) (k * up d * down e) (down e * down d) f tt refl (mul-pos (down_pos e) (down_pos d))
    (scaled_zero (m * up e) (down d) (minus_nonneg true m e n tt)) (mul-pos g (down_pos e)) (le_of_eq (sym (mul_assoc (k * up d) (down e) (down d)))) h

pub add_beyond : (x y : Float) (B : ℕ) → T (finite x) → NonNeg x → T (fits binary64 y) → minus_sign y ≡ false → Beyond y B →
    T (finite (add binary64 x y)) → Beyond (add binary64 x y) B
add_beyond x y B p n f s w h =
    let above = first_pos (num y) B (lt_of_lt_of_le (den_pos y) w.size) in
    carry y (add binary64 x y) B h w (add_grows x y p n w.is_finite f s above h)

-- ---- the product
mul_grows : (x y : Float) → minus_sign x ≡ false → Beyond x 1 → T (finite y) → T (fits binary64 y) → minus_sign y ≡ false →
    T (finite (mul binary64 x y)) →
    num y * den (mul binary64 x y) ≤ num (mul binary64 x y) * den y
unfolding mul
mul_grows nan y s p q f t h = absurd p.is_finite
mul_grows (inf u) y s p q f t h = absurd p.is_finite
mul_grows (fin u m e) nan s p q f t h = absurd q
mul_grows (fin u m e) (inf v) s p q f t h = absurd q
mul_grows (fin true m e) (fin v k d) s p q f t h = absurd (contrary refl s)
mul_grows (fin false m e) (fin true k d) s p q f t h = absurd (contrary refl t)
mul_grows (fin false m e) (fin false k d) s p q f t h =
    round_grows (fin false k d) (m * up e * (k * up d)) (down e * down d) f tt refl (mul-pos (down_pos e) (down_pos d))
    (go (m * up e) (down e) (k * up d) (down d) p.size) h
  where
    go : (a c b l : ℕ) → c ≤ a * 1 → b * (c * l) ≤ a * b * l
    go a c b l k =
        le_trans (mul-le-mul_left b (mul-le-mul_right l k))
        (le_of_eq (ap (λ (i : ℕ). b * (i * l)) (mul-one a) ∙ sym (mul_assoc b a l) ∙ ap (λ (i : ℕ). i * l) (mul_comm b a)))

pub mul_beyond : (x y : Float) (B : ℕ) → minus_sign x ≡ false → Beyond x 1 → T (fits binary64 y) → minus_sign y ≡ false → Beyond y B →
    T (finite (mul binary64 x y)) → Beyond (mul binary64 x y) B
mul_beyond x y B s p f t w h = carry y (mul binary64 x y) B h w (mul_grows x y s p w.is_finite f t h)

-- ---- signs
-- a float that is not negative, and not zero, has no minus sign
pub beyond_plus : (x : Float) (B : ℕ) → Beyond x B → NonNeg x → minus_sign x ≡ false
beyond_plus nan B w n = absurd w.is_finite
beyond_plus (inf s) B w n = absurd w.is_finite
beyond_plus (fin false m e) B w n = refl
beyond_plus (fin true m e) B w n =
    absurd (lt_irrefl 0 (lt_of_lt_of_le (first_pos (m * up e) B (lt_of_lt_of_le (down_pos e) w.size)) (le_of_eq (minus_nonneg true m e n tt))))

-- what is at least 1 / B in size and not negative is above zero
pub beyond_above : (x : Float) (B : ℕ) → Beyond x B → NonNeg x → lt plus_zero x ≡ true
beyond_above x B w n = num_above x w.is_finite n (first_pos (num x) B (lt_of_lt_of_le (den_pos x) w.size))
