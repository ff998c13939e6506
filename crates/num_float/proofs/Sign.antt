-- Sums, differences, products and quotients that are not negative.
use mathlib.Core.Path.{◌≡◌, refl, ◌∙◌}
use mathlib.Core.Bool.{Bool, true, false, not, cond}
use Prim.Native.Nat.{ℕ, ◌+◌, ◌-◌, ◌*◌, ◌≤◌, ◌<◌, zero-le}
use native.Mathlib.Nat.{le_trans, le_of_eq, mul_comm, mul-pos, ne_of_gt}
use native.Mathlib.Omega.{arith}
use lib.IntN.{pos}
use lib.Dec.{T, ltb, eqb, ltb→lt, eqb→eq, lit<}
use lib.Ieee.{Float, nan, inf, fin, binary64, up, down, unlike, round, sum, add, sub, mul, div, neg, lt, eq, le, is_nan, of_int, of_bits}
use lib.Ieee.Fits.{down_pos}
use lib.Ieee.Scale.{finite}
use Rattle.num_float.specs.Work.{greater, place}
use Rattle.num_float.specs.Sign.{plus_zero, NonNeg}
use Rattle.num_float.specs.Within.{Within}
use Rattle.num_float.proofs.Tests.{holds, contrary, cond_has}
use Rattle.num_float.proofs.Line.{agree_two, le→≤}
use Rattle.num_float.proofs.Order.{le_numbers, lt_le, not_lt_le}
use Rattle.num_float.proofs.NonNegative.{finite_number, nonneg_plus, nonneg_minus, minus_nonneg, nonneg_above, above_num, scaled_zero}
use Rattle.num_float.proofs.Rounding.{round_nonneg, round_within}
use Rattle.num_float.proofs.Within.{held_small}

-- ---- a rounded fraction is not negative where its sign is plus, or it is 0
zero_within : (x : Float) → Within x 0 → NonNeg x
zero_within nan w = absurd w.is_finite
zero_within (inf s) w = absurd w.is_finite
zero_within (fin true m e) w = nonneg_minus m e (go (m * up e) (down e) w.size)
  where
    go : (n d : ℕ) → n ≤ 0 * d → n ≡ 0
    go n d h = omega arith
zero_within (fin false m e) w = nonneg_plus m e

round_zero : (s : Bool) (a c : ℕ) → 0 < c → a ≡ 0 → NonNeg (round binary64 s a c)
round_zero s a c C e = zero_within (round binary64 s a c) (round_within s a c 0 C (held_small 0 (lit< tt)) (le_trans (le_of_eq e) zero-le))

round_signed : (s : Bool) (a c : ℕ) → 0 < c → (T s → a ≡ 0) → NonNeg (round binary64 s a c)
round_signed true a c C h = round_zero true a c C (h tt)
round_signed false a c C h = round_nonneg a c C

-- ---- the sum
-- a / c - b / c, where b is at most a
plus_minus : (a b c : ℕ) → 0 < c → (a < b → ⊥) → NonNeg (sum binary64 false a true b c)
unfolding sum
plus_minus a b c C n = go (ltb a b) (ltb→lt a b)
  where
    go : (v : Bool) → (T v → a < b) → NonNeg (cond v (round binary64 true (b - a) c) (round binary64 false (a - b) c))
    go true h = absurd (n (h tt))
    go false h = round_nonneg (a - b) c C

-- -a / c + b / c, where a is at most b
minus_plus : (a b c : ℕ) → 0 < c → (b < a → ⊥) → NonNeg (sum binary64 true a false b c)
unfolding sum
minus_plus a b c C n = go (ltb a b) (ltb b a) (ltb→lt b a)
  where
    go : (v z : Bool) → (T z → b < a) → NonNeg (cond v (round binary64 false (b - a) c) (round binary64 z (a - b) c))
    go true z h = round_nonneg (b - a) c C
    go false true h = absurd (n (h tt))
    go false false h = round_nonneg (a - b) c C

-- ±a / c + ±b / c, where each has a minus sign only at zero
sum_nonneg : (s t : Bool) (a b c : ℕ) → 0 < c → (T s → a ≡ 0) → (T t → b ≡ 0) → NonNeg (sum binary64 s a t b c)
sum_nonneg false false a b c C p q = unfold sum in round_nonneg (a + b) c C
sum_nonneg true true a b c C p q = unfold sum in round_zero true (a + b) c C (let e = p tt in let f = q tt in omega arith)
sum_nonneg false true a b c C p q = plus_minus a b c C (λ h. let e = q tt in omega arith)
sum_nonneg true false a b c C p q = minus_plus a b c C (λ h. let e = p tt in omega arith)

-- x + y; an infinity is allowed
pub add_nonneg : (x y : Float) → NonNeg x → NonNeg y → NonNeg (add binary64 x y)
unfolding add le lt eq of_bits
add_nonneg nan y p q = p
add_nonneg (inf true) y p q = absurd (holds p)
add_nonneg (inf false) nan p q = q
add_nonneg (inf false) (inf true) p q = q
add_nonneg (inf false) (inf false) p q = p
add_nonneg (inf false) (fin t n d) p q = p
add_nonneg (fin s m e) nan p q = q
add_nonneg (fin s m e) (inf t) p q = q
add_nonneg (fin s m e) (fin t n d) p q =
    sum_nonneg s t (m * up e * down d) (n * up d * down e) (down e * down d) (mul-pos (down_pos e) (down_pos d))
    (λ h. scaled_zero (m * up e) (down d) (minus_nonneg s m e p h)) (λ h. scaled_zero (n * up d) (down e) (minus_nonneg t n d q h))

-- a count, as `n as f64` gives it
pub whole_nonneg : (n : ℕ) → NonNeg (of_int binary64 (pos n))
unfolding of_int
whole_nonneg n = round_nonneg n 1 (lit< tt)

-- ---- the product and the quotient
either_zero : (s t : Bool) (a b : ℕ) → (T s → a ≡ 0) → (T t → b ≡ 0) → T (unlike s t) → a * b ≡ 0
either_zero true true a b p q h = absurd h
either_zero false false a b p q h = absurd h
either_zero true false a b p q h = scaled_zero a b (p tt)
either_zero false true a b p q h = mul_comm a b ∙ scaled_zero b a (q tt)

-- x * y
pub mul_nonneg : (x y : Float) → T (finite x) → T (finite y) → NonNeg x → NonNeg y → NonNeg (mul binary64 x y)
unfolding mul
mul_nonneg nan y f g p q = absurd f
mul_nonneg (inf s) y f g p q = absurd f
mul_nonneg (fin s m e) nan f g p q = absurd g
mul_nonneg (fin s m e) (inf t) f g p q = absurd g
mul_nonneg (fin s m e) (fin t n d) f g p q =
    round_signed (unlike s t) (m * up e * (n * up d)) (down e * down d) (mul-pos (down_pos e) (down_pos d)) (either_zero s t (m * up e) (n * up d) (minus_nonneg s m e p) (minus_nonneg t n d q))

-- x * x, unless it is a NaN; an infinity is allowed
pub square_nonneg : (x : Float) → is_nan x ≡ false → NonNeg (mul binary64 x x)
unfolding mul is_nan
square_nonneg nan h = absurd (contrary refl h)
square_nonneg (inf true) h = unfold le in unfold of_bits in refl
square_nonneg (inf false) h = unfold le in unfold of_bits in refl
square_nonneg (fin true m e) h = round_nonneg (m * up e * (m * up e)) (down e * down e) (mul-pos (down_pos e) (down_pos e))
square_nonneg (fin false m e) h = round_nonneg (m * up e * (m * up e)) (down e * down e) (mul-pos (down_pos e) (down_pos e))

-- x / y, for a y above 0.0
pub div_nonneg : (x y : Float) → T (finite x) → T (finite y) → NonNeg x → lt plus_zero y ≡ true → NonNeg (div binary64 x y)
unfolding div
div_nonneg nan y f g p q = absurd f
div_nonneg (inf s) y f g p q = absurd f
div_nonneg (fin s m e) nan f g p q = absurd g
div_nonneg (fin s m e) (inf t) f g p q = absurd g
div_nonneg (fin s m e) (fin t n d) f g p q = go (eqb n 0) (eqb→eq n 0)
  where
    positive : 0 < n * up d
    positive = above_num (fin t n d) tt q

    no_sign : T t → n * up d ≡ 0
    no_sign = minus_nonneg t n d (lt_le plus_zero (fin t n d) q)

    go : (b : Bool) → (T b → n ≡ 0) → NonNeg (cond b (cond (eqb m 0) nan (inf (unlike s t))) (round binary64 (unlike s t) (m * up e * down d) (n * up d * down e)))
    go true z = absurd (ne_of_gt positive (scaled_zero n (up d) (z tt)))
    go false z =
        round_signed (unlike s t) (m * up e * down d) (n * up d * down e) (mul-pos positive (down_pos e))
        (λ h. either_zero s t (m * up e) (down d) (minus_nonneg s m e p) (λ w. absurd (ne_of_gt positive (no_sign w))) h)

-- ---- the difference
-- ±a / c - ±b / c, where ±b stands at or before ±a
diff_nonneg : (s t : Bool) (a b c : ℕ) → 0 < c → place (b + a) t b + 1 ≤ place (b + a) s a + 1 → NonNeg (sum binary64 s a (not t) b c)
diff_nonneg false false a b c C h = plus_minus a b c C (λ k. omega arith)
diff_nonneg false true a b c C h = unfold sum in round_nonneg (a + b) c C
diff_nonneg true false a b c C h = unfold sum in round_zero true (a + b) c C (omega arith)
diff_nonneg true true a b c C h = minus_plus a b c C (λ k. omega arith)

-- x - y, for y <= x
pub sub_nonneg : (x y : Float) → T (finite x) → T (finite y) → le y x ≡ true → NonNeg (sub binary64 x y)
unfolding sub neg add
sub_nonneg nan y f g h = absurd f
sub_nonneg (inf s) y f g h = absurd f
sub_nonneg (fin s m e) nan f g h = absurd g
sub_nonneg (fin s m e) (inf t) f g h = absurd g
sub_nonneg (fin s m e) (fin t n d) f g h =
    diff_nonneg s t (m * up e * down d) (n * up d * down e) (down e * down d) (mul-pos (down_pos e) (down_pos d))
    (le→≤ (agree_two (fin t n d) (fin s m e) (finite_number (fin t n d) tt) (finite_number (fin s m e) tt)) h)

-- ---- a choice
-- whichever of two is chosen
pub cond_nonneg : (t : Bool) (x y : Float) → NonNeg x → NonNeg y → NonNeg (cond t x y)
cond_nonneg t x y p q = cond_has NonNeg t {x = x} {y = y} p q

-- the greater of a and any x, where a is not negative
pub greater_nonneg_left : (a x : Float) → NonNeg a → NonNeg (greater a x)
greater_nonneg_left a x p = go (lt a x) refl
  where
    go : (b : Bool) → lt a x ≡ b → NonNeg (cond b x a)
    go true h = nonneg_above a x p (lt_le a x h)
    go false h = p

-- the greater of a and an x that is not negative, where a is no NaN: a.max(0.0)
pub greater_nonneg_right : (a x : Float) → is_nan a ≡ false → NonNeg x → NonNeg (greater a x)
greater_nonneg_right a x n p = go (lt a x) refl
  where
    go : (b : Bool) → lt a x ≡ b → NonNeg (cond b x a)
    go true h = p
    go false h = nonneg_above x a p (not_lt_le a x n (le_numbers plus_zero x p).1 h)
