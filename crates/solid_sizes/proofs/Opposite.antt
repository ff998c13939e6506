-- A dot product with a negated vector, `a.dot(b * -1.0)`, is the size of `a.dot(b)`, bit for bit, and has the other sign unless it is zero.
use mathlib.Core.Path.{◌≡◌, refl, sym, ap, ◌∙◌, subst}
use mathlib.Core.Logic.{◌⊎◌, inl, inr}
use mathlib.Core.Bool.{Bool, true, false, not, cond}
use Prim.Native.Nat.{ℕ, zero, suc, ◌+◌, ◌-◌, ◌*◌, ◌/◌, ◌%◌, ◌^◌, ◌≤◌, ◌<◌, compare}
use native.Mathlib.Nat.{le_trans, le_of_eq, zero-mul, one-mul, mul_assoc, mul_comm, mul_right_comm, eq_of_mul-eq-mul_right, mul-pos}
use native.Mathlib.Omega.{arith}
use lib.IntN.{ℤ, pos, negsuc}
use lib.Dec.{T, ltb, ltb→lt, nltb→le, lit<}
use lib.Ieee as Ieee
use lib.Ieee.{Float, nan, inf, fin, binary64, up, down, low, prec, emax, unlike, size, nearest, odd, fits, round, sum, add, mul, neg, lt, of_bits}
use lib.Ieee.Exact.{HasValue, round_exact}
use lib.Ieee.Fits.{down_pos, round-fits, neg-fits}
use lib.Ieee.Scale.{finite, round_same}
use lib.Ieee.Positive.{num, den, den_pos}
use Rattle.num_float.specs.Units.{units}
use Rattle.num_float.specs.Within.{Within, Beyond}
use Rattle.num_float.specs.Work.{Held}
use Rattle.num_float.proofs.Tests.{contrary}
use Rattle.num_float.proofs.NonNegative.{scaled_zero, minus_size_le}
use Rattle.num_float.proofs.Order.{lt_le}
use Rattle.num_float.proofs.Within.{add_within, mul_within}
use Rattle.num_float.proofs.Rounding.{value_finite, value_sign, value_cross}
use Rattle.num_float.proofs.Units.{fits_short, units_are, units_under, exponent, units_shift, units_unique}
use Rattle.math.specs.declared.Vec3.{Vec3}
use Rattle.math.specs.Vector.{one, times, dot_of}
use Rattle.math.specs.Size.{VecWithin}
use Rattle.solid_polygon.specs.Polygon.{half}

-- ---- the same size, and the other sign unless it is zero
abbrev pub Opposite : Float → Float → Type 0
Opposite nan y = ⊥
Opposite (inf s) y = ⊥
Opposite (fin s m e) nan = ⊥
Opposite (fin s m e) (inf t) = ⊥
Opposite (fin s m e) (fin t n d) = (m ≡ n) × (e ≡ d) × ((t ≡ not s) ⊎ (m ≡ 0))

neg_opposite : (x : Float) → T (finite x) → Opposite x (neg x)
unfolding neg
neg_opposite nan n = absurd n
neg_opposite (inf s) n = absurd n
neg_opposite (fin s m e) n = (refl, refl, inl refl)

-- ---- a rounded fraction
odd_opposite : (d : ℕ) (s : Bool) (q k l : ℕ) → Opposite (odd d s q k l) (odd d (not s) q k l)
unfolding odd
odd_opposite d s zero k l = (refl, refl, inl refl)
odd_opposite d s (suc q) k l = (refl, refl, inl refl)

units_opposite : (s : Bool) (q k : ℕ) → T (finite (Ieee.units binary64 s q k)) → Opposite (Ieee.units binary64 s q k) (Ieee.units binary64 (not s) q k)
unfolding Ieee.units
units_opposite s q k = go (ltb (q * 2 ^ k) (2 ^ (low binary64 + suc (emax binary64))))
  where
    go : (b : Bool) → T (finite (cond b (odd (suc (prec binary64)) s q k (low binary64)) (inf s))) →
        Opposite (cond b (odd (suc (prec binary64)) s q k (low binary64)) (inf s)) (cond b (odd (suc (prec binary64)) (not s) q k (low binary64)) (inf (not s)))
    go true n = odd_opposite (suc (prec binary64)) s q k (low binary64)
    go false n = absurd n

zero_round : (s : Bool) (c : ℕ) → 0 < c → round binary64 s 0 c ≡ fin s 0 (pos 0)
zero_round s c C = round_same binary64 s 0 c 0 1 C (lit< tt) (sym (zero-mul c)) ∙ computed s
  where
    computed : (s : Bool) → round binary64 s 0 1 ≡ fin s 0 (pos 0)
    computed true = unfold round in refl
    computed false = unfold round in refl

round_other : (s : Bool) (a c : ℕ) → T (finite (round binary64 s a c)) → Opposite (round binary64 s a c) (round binary64 (not s) a c)
unfolding round
round_other s a c n =
    let k = size (a * 2 ^ low binary64 / c) - prec binary64 in
    let u = c * 2 ^ k in
    units_opposite s (nearest (a * 2 ^ low binary64 / u) (compare (a * 2 ^ low binary64 % u * 2) u)) k n

round_opposite : (s t : Bool) (a c : ℕ) → 0 < c → (t ≡ not s) ⊎ (a ≡ 0) → T (finite (round binary64 s a c)) → Opposite (round binary64 s a c) (round binary64 t a c)
round_opposite s t a c C (inl h) n =
    subst (λ (u : Bool). Opposite (round binary64 s a c) (round binary64 u a c)) (sym h) (round_other s a c n)
round_opposite s t a c C (inr h) n =
    subst (λ (k : ℕ). Opposite (round binary64 s k c) (round binary64 t k c)) (sym h)
    (subst (λ (x : Float). Opposite x (round binary64 t 0 c)) (sym (zero_round s c C))
    (subst (λ (y : Float). Opposite (fin s 0 (pos 0)) y) (sym (zero_round t c C)) (refl, refl, inr refl)))

-- ---- a sum
-- the difference p - m is ±k
abbrev Signed : Bool → ℕ → ℕ → ℕ → Type 0
Signed false k p m = p ≡ m + k
Signed true k p m = m ≡ p + k

-- what a sum of ±a / c and ±b / c rounds: ±k / c
record Rounds (s : Bool) (a : ℕ) (t : Bool) (b c : ℕ) : Type 0 where
  sign : Bool
  size : ℕ
  is : sum binary64 s a t b c ≡ round binary64 sign size c
  signed : Signed sign size (cond s 0 a + cond t 0 b) (cond s a 0 + cond t b 0)

sum_rounds : (s : Bool) (a : ℕ) (t : Bool) (b c : ℕ) → Rounds s a t b c
unfolding sum
sum_rounds false a false b c = record { sign = false; size = a + b; is = refl; signed = omega arith }
sum_rounds true a true b c = record { sign = true; size = a + b; is = refl; signed = omega arith }
sum_rounds false a true b c = go (ltb a b) (ltb→lt a b) (nltb→le a b) refl
  where
    go : (v : Bool) → (T v → a < b) → (T (not v) → b ≤ a) → ltb a b ≡ v → Rounds false a true b c
    go true y n e = record { sign = true; size = b - a; is = unfold sum in rw e; signed = let h = y tt in omega arith }
    go false y n e = record { sign = false; size = a - b; is = unfold sum in rw e; signed = let h = n tt in omega arith }
sum_rounds true a false b c = go (ltb a b) (ltb b a) (ltb→lt a b) (nltb→le a b) (ltb→lt b a) (nltb→le b a) refl refl
  where
    go : (v w : Bool) → (T v → a < b) → (T (not v) → b ≤ a) → (T w → b < a) → (T (not w) → a ≤ b) → ltb a b ≡ v → ltb b a ≡ w → Rounds true a false b c
    go true w y n y' n' e f = record { sign = false; size = b - a; is = unfold sum in rw e; signed = let h = y tt in omega arith }
    go false true y n y' n' e f = record { sign = true; size = a - b; is = unfold sum in rw (e, f); signed = let h = y' tt in omega arith }
    go false false y n y' n' e f =
        record { sign = false; size = a - b; is = unfold sum in rw (e, f); signed = let h = n tt in let g = n' tt in omega arith }

-- the two differences are opposite, and so is what they round to
same_size : (s t : Bool) (j k p m : ℕ) → Signed s j p m → Signed t k m p → (j ≡ k) × ((t ≡ not s) ⊎ (j ≡ 0))
same_size false false j k p m g h = (omega (arith, g, h), inr (omega (arith, g, h)))
same_size false true j k p m g h = (omega (arith, g, h), inl refl)
same_size true false j k p m g h = (omega (arith, g, h), inl refl)
same_size true true j k p m g h = (omega (arith, g, h), inr (omega (arith, g, h)))

-- a term with the other sign, unless it is zero
turned : (s u : Bool) (a : ℕ) → (u ≡ not s) ⊎ (a ≡ 0) → (cond u 0 a ≡ cond s a 0) × (cond u a 0 ≡ cond s 0 a)
turned true true a (inl h) = absurd (contrary refl h)
turned true true a (inr h) = (sym h, h)
turned true false a h = (refl, refl)
turned false true a h = (refl, refl)
turned false false a (inl h) = absurd (contrary h refl)
turned false false a (inr h) = (h, sym h)

sum_opposite : (s u t v : Bool) (a b c : ℕ) → 0 < c → (u ≡ not s) ⊎ (a ≡ 0) → (v ≡ not t) ⊎ (b ≡ 0) → T (finite (sum binary64 s a t b c)) →
    Opposite (sum binary64 s a t b c) (sum binary64 u a v b c)
sum_opposite s u t v a b c C h k n =
    let x = sum_rounds s a t b c in
    let y = sum_rounds u a v b c in
    let A = turned s u a h in
    let B = turned t v b k in
    let back : Signed y.sign y.size (cond s a 0 + cond t b 0) (cond s 0 a + cond t 0 b) =
    subst (λ (i : ℕ). Signed y.sign y.size i (cond s 0 a + cond t 0 b)) (pair A.0 B.0)
    (subst (λ (i : ℕ). Signed y.sign y.size (cond u 0 a + cond v 0 b) i) (pair A.1 B.1) y.signed) in
    let e = same_size x.sign y.sign x.size y.size _ _ x.signed back in
    subst (λ (z : Float). Opposite z (sum binary64 u a v b c)) (sym x.is)
    (subst (λ (z : Float). Opposite (round binary64 x.sign x.size c) z) (sym (y.is ∙ ap (λ (i : ℕ). round binary64 y.sign i c) (sym e.0)))
    (round_opposite x.sign y.sign x.size c C e.1 (subst (λ (z : Float). T (finite z)) x.is n)))
  where
    pair : {a b c d : ℕ} → a ≡ b → c ≡ d → a + c ≡ b + d
    pair p q = rw (p, q)

-- a size of zero, scaled
scaled : (s u : Bool) (m k l : ℕ) → (u ≡ not s) ⊎ (m ≡ 0) → (u ≡ not s) ⊎ (m * k * l ≡ 0)
scaled s u m k l (inl h) = inl h
scaled s u m k l (inr h) = inr (scaled_zero (m * k) l (scaled_zero m k h))

add_opposite : (x y z w : Float) → Opposite x z → Opposite y w → T (finite (add binary64 x y)) → Opposite (add binary64 x y) (add binary64 z w)
unfolding add
add_opposite nan y z w p q n = absurd p
add_opposite (inf s) y z w p q n = absurd p
add_opposite (fin s m e) y nan w p q n = absurd p
add_opposite (fin s m e) y (inf t) w p q n = absurd p
add_opposite (fin s m e) nan (fin u i f) w p q n = absurd q
add_opposite (fin s m e) (inf t) (fin u i f) w p q n = absurd q
add_opposite (fin s m e) (fin t k d) (fin u i f) nan p q n = absurd q
add_opposite (fin s m e) (fin t k d) (fin u i f) (inf v) p q n = absurd q
add_opposite (fin s m e) (fin t k d) (fin u i f) (fin v j g) p q n =
    subst (λ (z : Float). Opposite (sum binary64 s (m * up e * down d) t (k * up d * down e) (down e * down d)) z) (carried p.0 p.1 q.0 q.1)
    (sum_opposite s u t v (m * up e * down d) (k * up d * down e) (down e * down d) (mul-pos (down_pos e) (down_pos d))
    (scaled s u m (up e) (down d) p.2) (scaled t v k (up d) (down e) q.2) n)
  where
    carried : m ≡ i → e ≡ f → k ≡ j → d ≡ g →
        sum binary64 u (m * up e * down d) v (k * up d * down e) (down e * down d) ≡ sum binary64 u (i * up f * down g) v (j * up g * down f) (down f * down g)
    carried p q r w = rw (p, q, r, w)

-- ---- products
unlike_not : (s t : Bool) → unlike s (not t) ≡ not (unlike s t)
unlike_not true true = refl
unlike_not true false = refl
unlike_not false true = refl
unlike_not false false = refl

-- x * -y, for finite x and y
mul_opposite : (x y : Float) → T (finite x) → T (finite y) → T (finite (mul binary64 x y)) → Opposite (mul binary64 x y) (mul binary64 x (neg y))
unfolding mul neg
mul_opposite nan y p q n = absurd p
mul_opposite (inf s) y p q n = absurd p
mul_opposite (fin s m e) nan p q n = absurd q
mul_opposite (fin s m e) (inf t) p q n = absurd q
mul_opposite (fin s m e) (fin t k d) p q n =
    round_opposite (unlike s t) (unlike s (not t)) (m * up e * (k * up d)) (down e * down d) (mul-pos (down_pos e) (down_pos d)) (inl (unlike_not s t)) n

-- an f64 is what its value rounds to
round_self : (s : Bool) (m : ℕ) (e : ℤ) → T (fits binary64 (fin s m e)) → round binary64 s (m * up e) (down e) ≡ fin s m e
round_self s m e f =
    let x = fin s m e in
    let r = round binary64 s (m * up e) (down e) in
    let v : HasValue r s (m * up e) (down e) =
    round_exact binary64 s (m * up e) (down e) m (exponent e) (down_pos e) (fits_short s m e f)
    (subst (λ (z : ℕ). z < 2 ^ 2098) (units_shift s m e) (units_under x f))
    (units_are x f ∙ ap (λ (z : ℕ). z * down e) (units_shift s m e)) in
    let n = value_finite r s (m * up e) (down e) v in
    units_unique r x (round-fits binary64 s (m * up e) (down e)) f n tt (value_sign r s (m * up e) (down e) v)
    (cancel (units r) (units x) (num r) (den r) (m * up e) (down e) (2 ^ 1074) (den_pos r) (down_pos e)
    (units_are r (round-fits binary64 s (m * up e) (down e))) (value_cross r s (m * up e) (down e) v) (units_are x f))
  where
    cancel : (u w n d a c l : ℕ) → 0 < d → 0 < c → n * l ≡ u * d → n * c ≡ a * d → a * l ≡ w * c → u ≡ w
    cancel u w n d a c l D C p q r =
        eq_of_mul-eq-mul_right (d * c) (mul-pos D C) u w
        (sym (mul_assoc u d c) ∙ ap (λ (i : ℕ). i * c) (sym p) ∙ mul_right_comm n l c ∙ ap (λ (i : ℕ). i * l) q ∙ mul_right_comm a d l
        ∙ ap (λ (i : ℕ). i * d) r ∙ mul_assoc w c d ∙ ap (λ (i : ℕ). w * i) (mul_comm c d))

-- y * -1.0 is -y
minus_one : (y : Float) → T (fits binary64 y) → T (finite y) → mul binary64 y (neg one) ≡ neg y
unfolding mul neg of_bits
minus_one nan f n = absurd n
minus_one (inf s) f n = absurd n
minus_one (fin s m e) f n =
    round_same binary64 (unlike s true) (m * up e * 1) (down e * 1) (m * up e) (down e) (mul-pos (down_pos e) (lit< tt)) (down_pos e)
    (mul_right_comm (m * up e) 1 (down e) ∙ mul_assoc (m * up e) (down e) 1)
    ∙ ap (λ (t : Bool). round binary64 t (m * up e) (down e)) (turn s)
    ∙ round_self (not s) m e (neg-fits binary64 (fin s m e) f)
  where
    turn : (s : Bool) → unlike s true ≡ not s
    turn true = refl
    turn false = refl

-- ---- the dot product
-- the products that it adds, and its sums, are finite
pub dot_opposite : (a b : Vec3) (A B P Q C : ℕ) → VecWithin a A → VecWithin b B →
    T (fits binary64 b.x) → T (fits binary64 b.y) → T (fits binary64 b.z) →
    A * B ≤ P → Held P → P + P ≤ Q → Held Q → Q + P ≤ C → Held C → Opposite (dot_of a b) (dot_of a (times b (neg one)))
unfolding dot_of times
dot_opposite a b A B P Q C p q fx fy fz h H k K l L =
    let term : (x y : Float) → Within x A → Within y B → Within (mul binary64 x y) P = λ x y v w. mul_within x y A B P v w h H in
    let X = term a.x b.x p.x_within q.x_within in
    let Y = term a.y b.y p.y_within q.y_within in
    let Z = term a.z b.z p.z_within q.z_within in
    let S = add_within (mul binary64 a.x b.x) (mul binary64 a.y b.y) P P Q X Y k K in
    let D = add_within (add binary64 (mul binary64 a.x b.x) (mul binary64 a.y b.y)) (mul binary64 a.z b.z) Q P C S Z l L in
    let side : (x y : Float) → T (fits binary64 y) → Within x A → Within y B → Opposite (mul binary64 x y) (mul binary64 x (mul binary64 y (neg one))) =
    λ x y f v w.
    subst (λ (z : Float). Opposite (mul binary64 x y) (mul binary64 x z)) (sym (minus_one y f w.is_finite))
    (mul_opposite x y v.is_finite w.is_finite (term x y v w).is_finite) in
    add_opposite _ _ _ _
    (add_opposite _ _ _ _ (side a.x b.x fx p.x_within q.x_within) (side a.y b.y fy p.y_within q.y_within) S.is_finite)
    (side a.z b.z fz p.z_within q.z_within) D.is_finite

-- a dot product below -0.5: the opposite one is at least 0.5 in size
below_half : (s : Bool) (m : ℕ) (e : ℤ) → lt (fin s m e) (neg half) ≡ true → down e ≤ m * up e * 2
unfolding neg of_bits
below_half s m e h =
    le_trans (le_of_eq (sym (one-mul (down e)))) (minus_size_le s m e 1 (negsuc 0) (lt_le (fin s m e) (fin true 1 (negsuc 0)) h))

pub opposite_half : (x y : Float) → Opposite x y → lt x (neg half) ≡ true → Beyond y 2
opposite_half nan y p h = absurd p
opposite_half (inf s) y p h = absurd p
opposite_half (fin s m e) nan p h = absurd p
opposite_half (fin s m e) (inf t) p h = absurd p
opposite_half (fin s m e) (fin t n d) p h = record {
  is_finite = tt;
  size = subst (λ (i : ℕ). down d ≤ i * up d * 2) p.0 (subst (λ (f : ℤ). down f ≤ m * up f * 2) p.1 (below_half s m e h));
}
