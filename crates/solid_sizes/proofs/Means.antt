-- A sum of k terms, divided by k or multiplied by 1 / k: a bound on it.
use mathlib.Core.Path.{◌≡◌, sym, ap, ◌∙◌, subst}
use mathlib.Core.Bool.{false}
use Prim.Native.Nat.{ℕ, suc, ◌+◌, ◌*◌, ◌^◌, ◌≤◌, ◌<◌}
use native.Mathlib.Nat.{le_trans, le_of_eq, le_of_lt, lt_of_lt_of_le, le_of_mul-le-mul_right, eq_of_mul-eq-mul_right}
use native.Mathlib.Nat.{mul-le-mul_left, mul-le-mul_right, mul_comm, mul-one, one-mul, suc-mul, mul_left_comm, mul_right_comm, mul_assoc, mul-mul-mul_comm, mul-pos}
use native.Mathlib.Omega.{arith}
use lib.IntN.{pos}
use lib.Dec.{T, lit<, lit≤}
use lib.Pow.{pow_pos}
use lib.Ieee.{Float, nan, inf, fin, binary64, up, down, unlike, fits, round, mul, div, of_int, of_bits}
use lib.Ieee.Back.{round_whole}
use lib.Ieee.Fits.{down_pos, div-fits, of_int-fits}
use lib.Ieee.Scale.{finite}
use lib.Ieee.Positive.{num, den, den_pos}
use Rattle.num_float.specs.Units.{units}
use Rattle.num_float.specs.Work.{gap, Held}
use Rattle.num_float.specs.Within.{Within}
use Rattle.num_float.proofs.Rounding.{value_cross, round_within}
use Rattle.num_float.proofs.Within.{held_small, ratio_within, div_within, whole_within, whole_beyond}
use Rattle.num_float.proofs.Units.{units_are}
use Rattle.num_float.proofs.Error.{div_error}
use Rattle.math.specs.Vector.{one}
use Rattle.solid_polygon.specs.Polygon.{real}

-- a count is held exactly
real_value : (k : ℕ) → k ≤ 2 ^ 53 → num (real k) ≡ k * den (real k)
unfolding of_int
real_value k h =
    let x = round binary64 false k 1 in
    sym (mul-one (num x)) ∙ value_cross x false k 1 (round_whole binary64 false k h)

-- ---- by a division
-- x / y, for an x of at most k * b and a y of at least k
pub over_within : (x y : Float) (k b : ℕ) → 0 < k → Within x (k * b) → T (finite y) → k * den y ≤ num y → Held b → Within (div binary64 x y) b
over_within x y k b p X n h H =
    ratio_within x y b X.is_finite n (lt_of_lt_of_le (mul-pos p (den_pos y)) h)
    (le_trans (mul-le-mul_right (den y) X.size) (le_trans (le_of_eq (turn k b (den x) (den y))) (mul-le-mul_left b (mul-le-mul_right (den x) h)))) H
  where
    turn : (k b d e : ℕ) → k * b * d * e ≡ b * (k * e * d)
    turn k b d e = simp (mul_assoc, mul_comm, mul_left_comm)

pub mean_within : (x : Float) (k b : ℕ) → 0 < k → k ≤ 2 ^ 53 → Within x (k * b) → Held b → Within (div binary64 x (real k)) b
mean_within x k b p K X H = over_within x (real k) k b p X (whole_within k K).is_finite (le_of_eq (sym (real_value k K))) H

-- ---- by a product with the rounded 1 / k: at most one more
product_within : (x y : Float) (C : ℕ) → T (finite x) → T (finite y) → num x * num y ≤ C * (den x * den y) → Held C → Within (mul binary64 x y) C
unfolding mul
product_within nan y C p q h H = absurd p
product_within (inf s) y C p q h H = absurd p
product_within (fin s m e) nan C p q h H = absurd q
product_within (fin s m e) (inf t) C p q h H = absurd q
product_within (fin s m e) (fin t n d) C p q h H = round_within (unlike s t) (m * up e * (n * up d)) (down e * down d) C (mul-pos (down_pos e) (down_pos d)) H h

one_within : Within one 1
unfolding of_bits
one_within = record { is_finite = tt; size = lit≤ tt }

one_fits : T (fits binary64 one)
unfolding of_bits fits
one_fits = tt

-- r is 1 / k in units, of which l are 1
shares : (r k b l : ℕ) → 0 < l → gap (r * (k * l)) (l * l) * 2 ^ 53 ≤ l * l + 2 ^ 52 * (k * l) → b ≤ 2 ^ 52 → k * b ≤ l → k * b * r ≤ suc b * l
shares r k b l L h B K =
    let a : (r * k * 2 ^ 53) * l ≤ (l * 2 ^ 53 + l + 2 ^ 52 * k) * l =
    le_trans (le_of_eq (side r k l)) (le_trans (drop (r * (k * l)) (l * l) (k * l) h) (le_of_eq (other l k))) in
    let c : r * k * 2 ^ 53 ≤ l * 2 ^ 53 + l + 2 ^ 52 * k = le_of_mul-le-mul_right a L in
    let d : r * k * 2 ^ 53 * b ≤ (l * 2 ^ 53 + l + 2 ^ 52 * k) * b = mul-le-mul_right b c in
    let e : b * l ≤ 2 ^ 52 * l = mul-le-mul_right l B in
    le_of_mul-le-mul_right {k = 2 ^ 53}
    (last (k * b * r) (l * b) l (k * b) (r * k * 2 ^ 53 * b) (suc b * l) (turn r k b) (le_trans d (le_of_eq (split l k b))) (le_trans (le_of_eq (mul_comm l b)) e) K
    (suc-mul b l ∙ ap (λ (i : ℕ). i + l) (mul_comm b l))) (pow_pos 53)
  where
    side : (r k l : ℕ) → r * k * 2 ^ 53 * l ≡ r * (k * l) * 2 ^ 53
    side r k l = omega arith

    other : (l k : ℕ) → l * l * 2 ^ 53 + l * l + 2 ^ 52 * (k * l) ≡ (l * 2 ^ 53 + l + 2 ^ 52 * k) * l
    other l k = omega arith

    drop : (a c d : ℕ) → gap a c * 2 ^ 53 ≤ c + 2 ^ 52 * d → a * 2 ^ 53 ≤ c * 2 ^ 53 + c + 2 ^ 52 * d
    drop a c d h = omega arith

    turn : (r k b : ℕ) → r * k * 2 ^ 53 * b ≡ k * b * r * 2 ^ 53
    turn r k b = omega arith

    split : (l k b : ℕ) → (l * 2 ^ 53 + l + 2 ^ 52 * k) * b ≡ l * b * 2 ^ 53 + l * b + 2 ^ 52 * (k * b)
    split l k b = omega arith

    last : (p lb l kb q z : ℕ) → q ≡ p * 2 ^ 53 → q ≤ lb * 2 ^ 53 + lb + 2 ^ 52 * kb → lb ≤ 2 ^ 52 * l → kb ≤ l → z ≡ lb + l → p * 2 ^ 53 ≤ z * 2 ^ 53
    last p lb l kb q z e h i j g = omega arith

module _ (x : Float) (k b : ℕ) (p : 0 < k) (K : k ≤ 2 ^ 53) (X : Within x (k * b)) (B : b < 2 ^ 52) (S : k * b ≤ 2 ^ 1074) where
  abbrev share : Float
  share = div binary64 one (real k)

  share_finite : T (finite share)
  share_finite = (div_within one (real k) 1 1 1 one_within (whole_beyond k p K) (lit≤ tt) (held_small 1 (lit< tt))).is_finite

  real_units : units (real k) ≡ k * 2 ^ 1074
  real_units =
      eq_of_mul-eq-mul_right (den (real k)) (den_pos (real k)) (units (real k)) (k * 2 ^ 1074)
      (sym (units_are (real k) (of_int-fits binary64 (pos k))) ∙ ap (λ (i : ℕ). i * 2 ^ 1074) (real_value k K) ∙ mul_right_comm k (den (real k)) (2 ^ 1074))

  one_units : units one ≡ 2 ^ 1074
  unfolding of_bits
  one_units = one-mul (2 ^ 1074)

  off : gap (units share * (k * 2 ^ 1074)) (2 ^ 1074 * 2 ^ 1074) * 2 ^ 53 ≤ 2 ^ 1074 * 2 ^ 1074 + 2 ^ 52 * (k * 2 ^ 1074)
  off =
      subst (λ (i : ℕ). gap (units share * i) (2 ^ 1074 * 2 ^ 1074) * 2 ^ 53 ≤ 2 ^ 1074 * 2 ^ 1074 + 2 ^ 52 * i) real_units
      (subst (λ (i : ℕ). gap (units share * units (real k)) (i * 2 ^ 1074) * 2 ^ 53 ≤ i * 2 ^ 1074 + 2 ^ 52 * units (real k)) one_units
      (div_error one (real k) one_fits (of_int-fits binary64 (pos k)) one_within.is_finite (whole_within k K).is_finite
      (lt_of_lt_of_le (mul-pos p (den_pos (real k))) (le_of_eq (sym (real_value k K)))) share_finite))

  pub mean_times_within : Within (mul binary64 x share) (suc b)
  mean_times_within =
      product_within x share (suc b) X.is_finite share_finite
      (le_of_mul-le-mul_right
      (le_trans (le_of_eq (mul_assoc (num x) (num share) (2 ^ 1074) ∙ ap (λ (i : ℕ). num x * i) (units_are share (div-fits binary64 one (real k)))))
      (le_trans (mul-le-mul_right (units share * den share) X.size)
      (le_trans (le_of_eq (mul-mul-mul_comm (k * b) (den x) (units share) (den share)))
      (le_trans (mul-le-mul_right (den x * den share) (shares (units share) k b (2 ^ 1074) (pow_pos 1074) off (le_of_lt B) S))
      (le_of_eq (mul_right_comm (suc b) (2 ^ 1074) (den x * den share)))))))
      (pow_pos 1074))
      (held_small (suc b) (room b B))
    where
      room : (b : ℕ) → b < 2 ^ 52 → suc b < 2 ^ 53
      room b h = omega arith
