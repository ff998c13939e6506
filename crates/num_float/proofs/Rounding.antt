-- What rounding to f64 makes of a fraction a / b: its value in units of 2 ^ -1074, a bound on it, and how far it moves.
use mathlib.Core.Path.{◌≡◌, refl, sym, ap, ◌∙◌, subst}
use mathlib.Core.Logic.{inl, inr}
use mathlib.Core.Bool.{Bool, true, false, not, cond}
use Prim.Native.Nat.{ℕ, zero, suc, ◌+◌, ◌-◌, ◌*◌, ◌/◌, ◌%◌, ◌^◌, ◌≤◌, ◌<◌, zero-le, compare, Ordering}
use native.Mathlib.Nat.{le_trans, le_of_eq, le_of_lt, lt_of_lt_of_le, lt_of_le_of_lt, eq-zero-or-pos, zero-mul, mul-one, one-mul, add-mul, add-zero, suc-mul, mul_assoc, mul_comm, mul_right_comm, mul-le-mul_right, mul-lt-mul_of_pos_right, le_of_mul-le-mul_right, mul-pos, le-add_left, le-add_right, div-add-mod', mod-lt, le-div_iff_mul-le}
use native.Mathlib.Omega.{arith}
use lib.Dec.{T, is_le, compare_is_eq, ltb, eqb, ltb→lt, leb→le, nleb→lt, eqb→eq, eqb_refl, lit<}
use lib.Arith.{lt_of_le-ne}
use lib.Pow.{pow-add, pow_pos}
use lib.Ieee.{Float, nan, inf, fin, binary64, size, nearest, odd, units, round, of_bits, le, lt, eq}
use lib.Ieee.Bits.{is_true}
use lib.Ieee.Digits.{size_reaches}
use lib.Ieee.Exact.{HasValue, round_exact, units_val}
use lib.Ieee.Fits.{round_is}
use lib.Ieee.Nearest.{closest}
use lib.Ieee.Order.{round_mono, drop, kept, transfer, le_of_values}
use lib.Ieee.Scale.{finite, grid, overflow}
use lib.Ieee.Positive.{num, den, den_pos}
use Rattle.num_float.specs.Sign.{plus_zero, NonNeg}
use Rattle.num_float.specs.Units.{minus_sign}
use Rattle.num_float.specs.Work.{gap, Held}
use Rattle.num_float.specs.Within.{Within}
use Rattle.num_float.proofs.Tests.{holds, lt_or_ge}
use Rattle.num_float.proofs.Line.{le→≤}
use Rattle.num_float.proofs.NonNegative.{zero_finite, plus_nonneg, as_fractions}

-- ---- a float x with the value ±g / l
-- is finite
pub value_finite : (x : Float) (s : Bool) (g l : ℕ) → HasValue x s g l → T (finite x)
value_finite nan s g l v = v
value_finite (inf t) s g l v = v
value_finite (fin t m e) s g l v = tt

-- has that sign
pub value_sign : (x : Float) (s : Bool) (g l : ℕ) → HasValue x s g l → minus_sign x ≡ s
value_sign nan s g l v = absurd v
value_sign (inf t) s g l v = absurd v
value_sign (fin t m e) s g l v = v.0

-- is the same fraction
pub value_cross : (x : Float) (s : Bool) (g l : ℕ) → HasValue x s g l → num x * l ≡ g * den x
value_cross nan s g l v = absurd v
value_cross (inf t) s g l v = absurd v
value_cross (fin t m e) s g l v = v.1

-- is at most C in size, where g / l is
pub value_within : (x : Float) (s : Bool) (g l C : ℕ) → 0 < l → HasValue x s g l → g ≤ C * l → Within x C
value_within x s g l C L v h = record {
  is_finite = value_finite x s g l v;
  size = le_of_mul-le-mul_right (le_trans (le_of_eq (value_cross x s g l v)) (le_trans (mul-le-mul_right (den x) h) (le_of_eq (mul_right_comm C l (den x))))) L;
}

-- x <= y orders their values, neither of which has a minus sign
pub values_le : (x y : Float) (a c b d : ℕ) → HasValue x false a c → HasValue y false b d → le x y ≡ true → a * d ≤ b * c
values_le x y a c b d v w h =
    let f = value_finite x false a c v in
    let g = value_finite y false b d w in
    transfer a b c d (num x) (num y) (den x) (den y) (den_pos x) (den_pos y) (sym (value_cross x false a c v)) (sym (value_cross y false b d w))
    (le→≤ (as_fractions x y f g (plus_nonneg x f (value_sign x false a c v)) (plus_nonneg y g (value_sign y false b d w))) h)

-- and back
pub le_values : (x y : Float) (a c b d : ℕ) → HasValue x false a c → HasValue y false b d → 0 < c → 0 < d → a * d ≤ b * c → le x y ≡ true
le_values x y a c b d v w C D h = is_true (le x y) (le_of_values x y a c b d C D v w h)

-- ---- a rounded fraction that does not overflow is `grid` units
pub round_value : (s : Bool) (a b : ℕ) → grid binary64 a b < overflow binary64 → HasValue (round binary64 s a b) s (grid binary64 a b) (2 ^ 1074)
round_value s a b h =
    subst (λ (z : Float). HasValue z s (grid binary64 a b) (2 ^ 1074)) (sym (round_is binary64 s a b))
    (units_val binary64 s (kept 53 (a * 2 ^ 1074) b) (drop 53 (a * 2 ^ 1074) b) h)

-- one that is finite did not overflow
pub finite_under : (s : Bool) (a b : ℕ) → T (finite (round binary64 s a b)) → grid binary64 a b < overflow binary64
unfolding units
finite_under s a b t = go (ltb (grid binary64 a b) (overflow binary64)) (ltb→lt (grid binary64 a b) (overflow binary64)) (subst (λ (z : Float). T (finite z)) (round_is binary64 s a b) t)
  where
    go : (v : Bool) → (T v → grid binary64 a b < overflow binary64) → T (finite (cond v (odd 54 s (kept 53 (a * 2 ^ 1074) b) (drop 53 (a * 2 ^ 1074) b) 1074) (inf s))) → grid binary64 a b < overflow binary64
    go true h t = h tt
    go false h t = absurd t

-- a fraction with a plus sign rounds to a float that is not negative
pub round_nonneg : (a b : ℕ) → 0 < b → NonNeg (round binary64 false a b)
round_nonneg a b B =
    subst (λ (z : Float). le z (round binary64 false a b) ≡ true) of_zero
    (is_true (le (round binary64 false 0 1) (round binary64 false a b)) (round_mono binary64 0 1 a b (lit< tt) B (le_trans (le_of_eq (zero-mul b)) zero-le)))
  where
    of_zero : round binary64 false 0 1 ≡ plus_zero
    of_zero = unfold round in unfold of_bits in refl

-- a fraction of 2 ^ 1024 or more rounds to an infinity
pub finite_lt : (s : Bool) (a b : ℕ) → 0 < b → T (finite (round binary64 s a b)) → a < 2 ^ 1024 * b
finite_lt s a b B t = elim (lt_or_ge a (2 ^ 1024 * b)) [
  | inl h ↦ h
  | inr g ↦ absurd (no_infinity (round binary64 false a b) (value_finite (round binary64 false a b) false (grid binary64 a b) (2 ^ 1074) (round_value false a b (finite_under s a b t)))
      (subst (λ (z : Float). T (le z (round binary64 false a b))) largest (round_mono binary64 (2 ^ 1024) 1 a b (lit< tt) B (le_trans g (le_of_eq (sym (mul-one a)))))))
]
  where
    largest : round binary64 false (2 ^ 1024) 1 ≡ inf false
    largest = unfold round in refl

    no_infinity : (x : Float) → T (finite x) → T (le (inf false) x) → ⊥
    no_infinity nan f h = f
    no_infinity (inf s) f h = f
    no_infinity (fin s m e) f h = unfold le in h

-- ---- a bound
-- what lies between two finite floats is finite
pub finite_between : (lo x hi : Float) → le lo x ≡ true → le x hi ≡ true → T (finite lo) → T (finite hi) → T (finite x)
unfolding le lt eq
finite_between nan x hi h k f g = absurd f
finite_between (inf s) x hi h k f g = absurd f
finite_between (fin s m e) nan hi h k f g = holds h
finite_between (fin s m e) (inf true) hi h k f g = holds h
finite_between (fin s m e) (inf false) nan h k f g = absurd g
finite_between (fin s m e) (inf false) (inf t) h k f g = absurd g
finite_between (fin s m e) (inf false) (fin t n d) h k f g = holds k
finite_between (fin s m e) (fin t n d) hi h k f g = tt

below_overflow : (b : ℕ) → b < 2 ^ 1024 → b * 2 ^ 1074 < overflow binary64
below_overflow b h = lt_of_lt_of_le (mul-lt-mul_of_pos_right h (pow_pos 1074)) (le_of_eq (mul_comm (2 ^ 1024) (2 ^ 1074) ∙ sym (pow-add 2 1074 1024)))

-- a held number, rounded, is itself
held_exact : (b : ℕ) → Held b → HasValue (round binary64 false b 1) false b 1
held_exact b h =
    let e : b * 2 ^ 1074 ≡ h.significand * 2 ^ (h.exponent + 1074) =
    ap (λ (k : ℕ). k * 2 ^ 1074) h.is ∙ mul_assoc h.significand (2 ^ h.exponent) (2 ^ 1074) ∙ ap (λ (k : ℕ). h.significand * k) (sym (pow-add 2 h.exponent 1074)) in
    round_exact binary64 false b 1 h.significand (h.exponent + 1074) (lit< tt) h.short
    (subst (λ (k : ℕ). k < overflow binary64) e (below_overflow b h.below))
    (e ∙ sym (mul-one (h.significand * 2 ^ (h.exponent + 1074))))

-- a fraction that is at most C in size, for a held C, rounds to a float that is at most C in size
pub round_within : (s : Bool) (a b C : ℕ) → 0 < b → Held C → a ≤ C * b → Within (round binary64 s a b) C
round_within s a b C B H h =
    let x = round binary64 false a b in
    let y = round binary64 false C 1 in
    let w = held_exact C H in
    let l : le x y ≡ true = is_true (le x y) (round_mono binary64 a b C 1 B (lit< tt) (le_trans (le_of_eq (mul-one a)) h)) in
    let f : T (finite x) = finite_between plus_zero x y (round_nonneg a b B) l zero_finite (value_finite y false C 1 w) in
    let small : grid binary64 a b ≤ C * 2 ^ 1074 =
    le_trans (le_of_eq (sym (mul-one (grid binary64 a b)))) (values_le x y (grid binary64 a b) (2 ^ 1074) C 1 (round_value false a b (finite_under false a b f)) w l) in
    value_within (round binary64 s a b) s (grid binary64 a b) (2 ^ 1074) C (pow_pos 1074) (round_value s a b (lt_of_le_of_lt small (below_overflow C H.below))) small

-- ---- how far rounding moves a fraction
-- the outcome of `compare` as a fact
abbrev Compared : Ordering → ℕ → ℕ → Type 0
Compared Ordering.lt a b = a < b
Compared Ordering.eq a b = a ≡ b
Compared Ordering.gt a b = b < a

compared : (a b : ℕ) → Compared (compare a b) a b
compared a b = go (compare a b) (leb→le a b) (nleb→lt a b) (eqb→eq a b) (λ (e : a ≡ b). subst (λ (x : ℕ). T (eqb a x)) e (eqb_refl a))
  where
    go : (o : Ordering) → (T (is_le o) → a ≤ b) → (T (not (is_le o)) → b < a) → (T (compare_is_eq o) → a ≡ b) → (a ≡ b → T (compare_is_eq o)) → Compared o a b
    go Ordering.lt h k e n = lt_of_le-ne (h tt) n
    go Ordering.eq h k e n = e tt
    go Ordering.gt h k e n = k tt

-- n = q * u + r, and r < u: q * u is near enough where 2 r ≤ u, and q * u + u where u ≤ 2 r
stay : (p r n u : ℕ) → p + r ≡ n → r * 2 ≤ u → gap p n * 2 ≤ u
stay p r n u e h = omega arith

step : (p r n u s : ℕ) → s ≡ p + u → p + r ≡ n → r < u → u ≤ r * 2 → gap s n * 2 ≤ u
step p r n u s f e l h = omega arith

nearest_error : (q r n u : ℕ) (o : Ordering) → q * u + r ≡ n → r < u → Compared o (r * 2) u → gap (nearest q o * u) n * 2 ≤ u
nearest_error q r n u Ordering.lt e l c = stay (q * u) r n u e (le_of_lt c)
nearest_error q r n u Ordering.gt e l c = step (q * u) r n u (suc q * u) (suc-mul q u) e l (le_of_lt c)
nearest_error q r n u Ordering.eq e l c = go (q % 2) (mod-lt q (lit< tt))
  where
    no : (p : ℕ) → suc (suc p) < 2 → ⊥
    no p h = omega arith

    go : (p : ℕ) → p < 2 → gap ((q + p) * u) n * 2 ≤ u
    go zero h = subst (λ (k : ℕ). gap (k * u) n * 2 ≤ u) (sym (add-zero q)) (stay (q * u) r n u e (le_of_eq c))
    go (suc zero) h = step (q * u) r n u ((q + 1) * u) (add-mul q 1 u ∙ ap (λ (k : ℕ). q * u + k) (one-mul u)) e l (le_of_eq (sym c))
    go (suc (suc p)) h = absurd (no p h)

-- the multiple of u that is closest to n is at most u / 2 from it
closest_error : (n u : ℕ) → 0 < u → gap (closest n u * u) n * 2 ≤ u
closest_error n u h = nearest_error (n / u) (n % u) n u (compare (n % u * 2) u) (div-add-mod' n u) (mod-lt n h) (compared (n % u * 2) u)

-- the unit that rounding chooses for n / b is at most 2 ^ -52 of it, or 1
unit_le : (n b : ℕ) → 0 < b → b * 2 ^ drop 53 n b * 2 ^ 52 ≤ n + 2 ^ 52 * b
unit_le n b B = elim (eq-zero-or-pos (drop 53 n b)) [
  | inl z ↦ subst (λ (D : ℕ). b * 2 ^ D * 2 ^ 52 ≤ n + 2 ^ 52 * b) (sym z) (le_trans (le_of_eq (ap (λ (k : ℕ). k * 2 ^ 52) (mul-one b) ∙ mul_comm b (2 ^ 52))) (le-add_left (2 ^ 52 * b) n))
  | inr p ↦
      let D = drop 53 n b in
      le_trans (le_of_eq (mul_assoc b (2 ^ D) (2 ^ 52) ∙ ap (λ (k : ℕ). b * k) (mul_comm (2 ^ D) (2 ^ 52) ∙ sym (pow-add 2 52 D)) ∙ mul_comm b (2 ^ (52 + D))))
      (le_trans ((le-div_iff_mul-le B).0 (size_reaches (n / b) (52 + D) (digits (size (n / b)) D refl p))) (le-add_right n (2 ^ 52 * b)))
]
  where
    digits : (z D : ℕ) → z - 53 ≡ D → 0 < D → 52 + D < z
    digits z D e h = omega arith

-- a / b rounded is g units, for g = `grid`, and | g / 2 ^ 1074 - a / b | ≤ 2 ^ -53 * a / b + 2 ^ -1075
pub grid_error : (a b : ℕ) → 0 < b → gap (grid binary64 a b * b) (a * 2 ^ 1074) * 2 ^ 53 ≤ a * 2 ^ 1074 + 2 ^ 52 * b
grid_error a b B =
    let n = a * 2 ^ 1074 in
    let D = drop 53 n b in
    let u = b * 2 ^ D in
    let K = kept 53 n b in
    let e : K * 2 ^ D * b ≡ K * u = mul_assoc K (2 ^ D) b ∙ ap (λ (k : ℕ). K * k) (mul_comm (2 ^ D) b) in
    let h : gap (K * 2 ^ D * b) n * 2 ≤ u = subst (λ (k : ℕ). gap k n * 2 ≤ u) (sym e) (closest_error n u (mul-pos B (pow_pos D))) in
    le_trans (le_of_eq (sym (mul_assoc (gap (K * 2 ^ D * b) n) 2 (2 ^ 52)))) (le_trans (mul-le-mul_right (2 ^ 52) h) (unit_le n b B))
