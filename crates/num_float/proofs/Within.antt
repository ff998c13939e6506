-- Bounds through the operations on f64, and from the tests of code.
use mathlib.Core.Path.{◌≡◌, refl, sym, ap, ◌∙◌, subst}
use mathlib.Core.Bool.{Bool, true, false, ◌&&◌, beq, cond}
use Prim.Native.Nat.{ℕ, ◌+◌, ◌-◌, ◌*◌, ◌^◌, ◌≤◌, ◌<◌}
use native.Mathlib.Nat.{le_trans, le_of_eq, lt_of_lt_of_le, lt_of_le_of_lt, mul-one, one-mul, zero-mul, add-mul, mul_assoc, mul_comm, mul_right_comm, mul-mul-mul_comm, mul-le-mul, mul-le-mul_left, mul-le-mul_right, mul-lt-mul_of_pos_right, le_of_mul-le-mul_right, add-le-add, mul-pos, lt_irrefl}
use native.Mathlib.Omega.{arith}
use lib.IntN.{pos}
use lib.Dec.{T, ltb, eqb, eqb→eq, lit<, lit≤}
use lib.Pow.{pow_mono, shl_lt}
use lib.Ieee.{Float, nan, inf, fin, binary64, up, down, unlike, round, sum, add, sub, mul, div, neg, lt, le, of_int, of_bits}
use lib.Ieee.Fits.{down_pos}
use lib.Ieee.Back.{round_whole}
use lib.Ieee.Scale.{finite}
use lib.Ieee.Positive.{num, den, den_pos, first_pos}
use Rattle.num_float.specs.Order.{lesser}
use Rattle.num_float.specs.Work.{greater, Held}
use Rattle.num_float.specs.Sign.{NonNeg}
use Rattle.num_float.specs.Within.{Within, Beyond}
use Rattle.num_float.proofs.Tests.{cond_has}
use Rattle.num_float.proofs.Line.{le→≤}
use Rattle.num_float.proofs.NonNegative.{nonneg_above, as_fractions, plus_size_le, minus_size_le, size_lt}
use Rattle.num_float.proofs.Rounding.{value_finite, value_cross, value_within, finite_between, round_within}

-- ---- which numbers are held
-- each i * 2 ^ k with i below 2 ^ 53 and k up to 971
pub held_pow : (i k : ℕ) → i < 2 ^ 53 → k ≤ 971 → Held (i * 2 ^ k)
held_pow i k h g = record { significand = i; exponent = k; is = refl; short = h; below = lt_of_lt_of_le (shl_lt 53 k h) (pow_mono (room k g)) }
  where
    room : (k : ℕ) → k ≤ 971 → 53 + k ≤ 1024
    room k g = omega arith

-- each i below 2 ^ 53
pub held_small : (i : ℕ) → i < 2 ^ 53 → Held i
held_small i h = subst Held (mul-one i) (held_pow i 0 h (lit≤ tt))

-- ---- a larger bound
-- at most a in size is at most b in size, for a ≤ b
pub wider : {x : Float} {a : ℕ} (b : ℕ) → a ≤ b → Within x a → Within x b
wider {x} {a} b h w = record { is_finite = w.is_finite; size = le_trans w.size (mul-le-mul_right (den x) h) }

-- at least 1 / a in size is at least 1 / b in size, for a ≤ b
pub wider_beyond : {x : Float} {a : ℕ} (b : ℕ) → a ≤ b → Beyond x a → Beyond x b
wider_beyond {x} {a} b h w = record { is_finite = w.is_finite; size = le_trans w.size (mul-le-mul_left (num x) h) }

-- ---- -x, the size without the sign, and a choice
-- -x has the size of x
pub neg_within : (x : Float) (a : ℕ) → Within x a → Within (neg x) a
unfolding neg
neg_within nan a w = absurd w.is_finite
neg_within (inf s) a w = absurd w.is_finite
neg_within (fin s m e) a w = record { is_finite = tt; size = w.size }

-- whichever of two is chosen
pub cond_within : (t : Bool) {x y : Float} {a : ℕ} → Within x a → Within y a → Within (cond t x y) a
cond_within t {x} {y} {a} p q = cond_has (λ (z : Float). Within z a) t p q

-- the lesser of two
pub lesser_within : {x y : Float} {a : ℕ} → Within x a → Within y a → Within (lesser x y) a
lesser_within {x} {y} p q = cond_within (lt y x) q p

-- the greater of two
pub greater_within : {x y : Float} {a : ℕ} → Within x a → Within y a → Within (greater x y) a
greater_within {x} {y} p q = cond_within (lt x y) q p

-- x has the size of -x
pub neg_beyond : (x : Float) (a : ℕ) → Beyond (neg x) a → Beyond x a
unfolding neg
neg_beyond nan a w = absurd w.is_finite
neg_beyond (inf s) a w = absurd w.is_finite
neg_beyond (fin s m e) a w = record { is_finite = tt; size = w.size }

-- ---- the sum
both : (n d m c A B C : ℕ) → n ≤ A * d → m ≤ B * c → A + B ≤ C → n * c + m * d ≤ C * (d * c)
both n d m c A B C h k l =
    le_trans (add-le-add (le_trans (mul-le-mul_right c h) (le_of_eq (mul_assoc A d c))) (le_trans (mul-le-mul_right d k) (le_of_eq (mul_assoc B c d ∙ ap (λ (z : ℕ). B * z) (mul_comm c d)))))
    (le_trans (le_of_eq (sym (add-mul A B (d * c)))) (mul-le-mul_right (d * c) l))

sum_within : (s t : Bool) (a b c C : ℕ) → 0 < c → Held C → a + b ≤ C * c → Within (sum binary64 s a t b c) C
unfolding sum
sum_within s t a b c C P H h = go (beq s t) (ltb a b)
  where
    less : (a b e : ℕ) → a + b ≤ e → (b - a ≤ e) × (a - b ≤ e)
    less a b e h = (omega arith, omega arith)

    go : (u v : Bool) → Within (cond u (round binary64 s (a + b) c) (cond v (round binary64 t (b - a) c) (round binary64 (s && ltb b a) (a - b) c))) C
    go true v = round_within s (a + b) c C P H h
    go false true = round_within t (b - a) c C P H (less a b (C * c) h).0
    go false false = round_within (s && ltb b a) (a - b) c C P H (less a b (C * c) h).1

-- x + y
pub add_within : (x y : Float) (A B C : ℕ) → Within x A → Within y B → A + B ≤ C → Held C → Within (add binary64 x y) C
unfolding add
add_within nan y A B C p q h H = absurd p.is_finite
add_within (inf s) y A B C p q h H = absurd p.is_finite
add_within (fin s m e) nan A B C p q h H = absurd q.is_finite
add_within (fin s m e) (inf t) A B C p q h H = absurd q.is_finite
add_within (fin s m e) (fin t n d) A B C p q h H =
    sum_within s t (m * up e * down d) (n * up d * down e) (down e * down d) C (mul-pos (down_pos e) (down_pos d)) H (both (m * up e) (down e) (n * up d) (down d) A B C p.size q.size h)

-- x - y
pub sub_within : (x y : Float) (A B C : ℕ) → Within x A → Within y B → A + B ≤ C → Held C → Within (sub binary64 x y) C
unfolding sub
sub_within x y A B C p q h H = add_within x (neg y) A B C p (neg_within y B q) h H

-- ---- the product
-- x * y
pub mul_within : (x y : Float) (A B C : ℕ) → Within x A → Within y B → A * B ≤ C → Held C → Within (mul binary64 x y) C
unfolding mul
mul_within nan y A B C p q h H = absurd p.is_finite
mul_within (inf s) y A B C p q h H = absurd p.is_finite
mul_within (fin s m e) nan A B C p q h H = absurd q.is_finite
mul_within (fin s m e) (inf t) A B C p q h H = absurd q.is_finite
mul_within (fin s m e) (fin t n d) A B C p q h H =
    round_within (unlike s t) (m * up e * (n * up d)) (down e * down d) C (mul-pos (down_pos e) (down_pos d)) H
    (le_trans (mul-le-mul p.size q.size) (le_trans (le_of_eq (mul-mul-mul_comm A (down e) B (down d))) (mul-le-mul_right (down e * down d) h)))

-- ---- the quotient
-- x / y, for an x that is at most C times y in size
pub ratio_within : (x y : Float) (C : ℕ) → T (finite x) → T (finite y) → 0 < num y → num x * den y ≤ C * (num y * den x) → Held C → Within (div binary64 x y) C
unfolding div
ratio_within nan y C p q z h H = absurd p
ratio_within (inf s) y C p q z h H = absurd p
ratio_within (fin s m e) nan C p q z h H = absurd q
ratio_within (fin s m e) (inf t) C p q z h H = absurd q
ratio_within (fin s m e) (fin t n d) C p q z h H = go (eqb n 0) (eqb→eq n 0)
  where
    go : (b : Bool) → (T b → n ≡ 0)
        → Within (cond b (cond (eqb m 0) nan (inf (unlike s t))) (round binary64 (unlike s t) (m * up e * down d) (n * up d * down e))) C
    go true k = absurd (lt_irrefl 0 (lt_of_lt_of_le z (le_of_eq (ap (λ (i : ℕ). i * up d) (k tt) ∙ zero-mul (up d)))))
    go false k = round_within (unlike s t) (m * up e * down d) (n * up d * down e) C (mul-pos z (down_pos e)) H h

-- x / y, for a y that is at least 1 / L in size
pub div_within : (x y : Float) (A L C : ℕ) → Within x A → Beyond y L → A * L ≤ C → Held C → Within (div binary64 x y) C
div_within x y A L C p q h H =
    ratio_within x y C p.is_finite q.is_finite (first_pos (num y) L (lt_of_lt_of_le (den_pos y) q.size))
    (over (num x) (den x) (num y) (den y) p.size q.size) H
  where
    over : (a d m c : ℕ) → a ≤ A * d → c ≤ m * L → a * c ≤ C * (m * d)
    over a d m c i k =
        le_trans (mul-le-mul i k)
        (le_trans (le_of_eq (ap (λ (z : ℕ). A * d * z) (mul_comm m L) ∙ mul-mul-mul_comm A d L m ∙ ap (λ (z : ℕ). A * L * z) (mul_comm d m)))
        (mul-le-mul_right (m * d) h))

-- ---- a count, as `n as f64` gives it
-- is at most n in size
pub whole_within : (n : ℕ) → n ≤ 2 ^ 53 → Within (of_int binary64 (pos n)) n
unfolding of_int
whole_within n h = value_within (round binary64 false n 1) false n 1 n (lit< tt) (round_whole binary64 false n h) (le_of_eq (sym (mul-one n)))

-- and at least 1 in size, unless n is 0
pub whole_beyond : (n : ℕ) → 0 < n → n ≤ 2 ^ 53 → Beyond (of_int binary64 (pos n)) 1
unfolding of_int
whole_beyond n p h =
    let x = round binary64 false n 1 in
    let v = round_whole binary64 false n h in
    record {
      is_finite = value_finite x false n 1 v;
      size = le_trans (le_of_eq (sym (one-mul (den x)))) (le_trans (mul-le-mul_right (den x) p) (le_of_eq (sym (value_cross x false n 1 v))));
    }

-- ---- from the tests of code
-- n / d is at most m / c, which is at most b
through : (n d m c b : ℕ) → 0 < c → n * c ≤ m * d → m ≤ b * c → n ≤ b * d
through n d m c b C h k = le_of_mul-le-mul_right (le_trans h (le_trans (mul-le-mul_right d k) (le_of_eq (mul_right_comm b c d)))) C

-- lo <= x && x <= hi, for lo and hi of at most b in size
pub tested_within : (lo x hi : Float) (b : ℕ) → le lo x ≡ true → le x hi ≡ true → Within lo b → Within hi b → Within x b
tested_within nan x hi b h k p q = absurd p.is_finite
tested_within (inf s) x hi b h k p q = absurd p.is_finite
tested_within (fin s m e) x nan b h k p q = absurd q.is_finite
tested_within (fin s m e) x (inf u) b h k p q = absurd q.is_finite
tested_within (fin s m e) nan (fin u i c) b h k p q = absurd (finite_between (fin s m e) nan (fin u i c) h k tt tt)
tested_within (fin s m e) (inf t) (fin u i c) b h k p q = absurd (finite_between (fin s m e) (inf t) (fin u i c) h k tt tt)
tested_within (fin s m e) (fin false n d) (fin u i c) b h k p q = record { is_finite = tt; size = through (n * up d) (down d) (i * up c) (down c) b (down_pos c) (plus_size_le n d u i c k) q.size }
tested_within (fin s m e) (fin true n d) (fin u i c) b h k p q = record { is_finite = tt; size = through (n * up d) (down d) (m * up e) (down e) b (down_pos e) (minus_size_le s m e n d h) p.size }

-- c <= y, for a c that is not negative and at least 1 / b in size
pub tested_beyond : (c y : Float) (b : ℕ) → le c y ≡ true → T (finite y) → NonNeg c → Beyond c b → Beyond y b
tested_beyond c y b h f n p = record {
  is_finite = f;
  size = le_of_mul-le-mul_right (go (num c) (den c) (num y) (den y) p.size (le→≤ (as_fractions c y p.is_finite f n (nonneg_above c y n h)) h)) (den_pos c);
}
  where
    go : (nc dc ny dy : ℕ) → dc ≤ nc * b → nc * dy ≤ ny * dc → dy * dc ≤ ny * b * dc
    go nc dc ny dy i k =
        le_trans (le_of_eq (mul_comm dy dc))
        (le_trans (mul-le-mul_right dy i) (le_trans (le_of_eq (mul_right_comm nc b dy)) (le_trans (mul-le-mul_right b k) (le_of_eq (mul_right_comm ny dc b)))))

-- x < 2 ^ k, for an x of at most b in size, and b < 2 ^ k
pub within_lt : (x : Float) (b k : ℕ) → Within x b → b < 2 ^ k → lt x (fin false 1 (pos k)) ≡ true
within_lt nan b k w h = absurd w.is_finite
within_lt (inf s) b k w h = absurd w.is_finite
within_lt (fin s m e) b k w h =
    size_lt s m e 1 (pos k)
    (lt_of_le_of_lt (le_of_eq (mul-one (m * up e))) (lt_of_le_of_lt w.size (mul-lt-mul_of_pos_right (lt_of_lt_of_le h (le_of_eq (sym (one-mul (2 ^ k))))) (down_pos e))))

-- the test x < 2 ^ 60 of a decimal's writer: refusal 13 of document 01 is never met for it
pub within_lt_2_60 : (x : Float) (b : ℕ) → Within x b → b < 2 ^ 60 → lt x (of_bits binary64 0x43B0000000000000) ≡ true
unfolding of_bits
within_lt_2_60 x b w h = within_lt x b 60 w h
