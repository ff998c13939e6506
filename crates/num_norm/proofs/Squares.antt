-- The squared length of a vector: never below zero, and where it is finite no smaller than the square of a component.
use mathlib.Core.Path.{◌≡◌, refl}
use mathlib.Core.Logic.{inl, inr}
use mathlib.Core.Bool.{true, false, true≢false}
use Prim.Native.Nat.{◌+◌, ◌*◌, ◌≤◌}
use native.Mathlib.Nat.{le_trans}
use lib.Dec.{T}
use lib.Ieee.{Float, nan, inf, fin, binary64, up, down, fits, add, mul, sum, lt, is_nan}
use lib.Ieee.Fits.{add-fits, mul-fits}
use lib.Ieee.Scale.{finite}
use Rattle.num_float.specs.Sign.{plus_zero}
use Rattle.num_float.specs.Units.{units, minus_sign}
use Rattle.num_float.proofs.NonNegative.{not_negative, nonneg_not_lt}
use Rattle.num_float.proofs.Sign.{add_nonneg, square_nonneg}
use Rattle.num_float.proofs.Units.{units_le, round_sign}
use Rattle.num_float.proofs.Growth.{add_grows_left, add_grows_right}
use Rattle.num_norm.specs.Length.{squared}
use Rattle.num_norm.proofs.LeastRoot.{Operand}

-- ---- never below zero, whatever the components are
square_not_below : (x : Float) → lt (mul binary64 x x) plus_zero ≡ false
square_not_below nan = unfold mul in unfold lt in refl
square_not_below (inf s) = nonneg_not_lt (mul binary64 (inf s) (inf s)) (square_nonneg (inf s) (unfold is_nan in refl))
square_not_below (fin s m e) = nonneg_not_lt (mul binary64 (fin s m e) (fin s m e)) (square_nonneg (fin s m e) (unfold is_nan in refl))

add_nan : (x : Float) → add binary64 x nan ≡ nan
unfolding add
add_nan nan = refl
add_nan (inf s) = refl
add_nan (fin s m e) = refl

add_not_below : (x y : Float) → lt x plus_zero ≡ false → lt y plus_zero ≡ false → lt (add binary64 x y) plus_zero ≡ false
add_not_below x y p q = elim (not_negative x p) [
  | inl e ↦ rw e (unfold add in unfold lt in refl)
  | inr a ↦ elim (not_negative y q) [
    | inl e ↦ rw (e, add_nan x) (unfold lt in refl)
    | inr b ↦ nonneg_not_lt (add binary64 x y) (add_nonneg x y a b)
  ]
]

squared_fits : (x y z : Float) → T (fits binary64 (squared x y z))
squared_fits x y z = add-fits binary64 _ _

-- a squared length is an operand of LeastRoot's laws
pub squared_operand : (x y z : Float) → Operand (squared x y z)
squared_operand x y z =
    let xx = mul binary64 x x in
    let yy = mul binary64 y y in
    record {
      fit = squared_fits x y z;
      not_below = add_not_below (add binary64 xx yy) (mul binary64 z z) (add_not_below xx yy (square_not_below x) (square_not_below y)) (square_not_below z);
    }

-- ---- a finite sum has finite terms, and a finite square is of a finite number
add_terms : (x y : Float) → T (finite (add binary64 x y)) → T (finite x) × T (finite y)
unfolding add
add_terms nan y h = absurd h
add_terms (inf s) nan h = absurd h
add_terms (inf true) (inf true) h = absurd h
add_terms (inf true) (inf false) h = absurd h
add_terms (inf false) (inf true) h = absurd h
add_terms (inf false) (inf false) h = absurd h
add_terms (inf s) (fin t n d) h = absurd h
add_terms (fin s m e) nan h = absurd h
add_terms (fin s m e) (inf t) h = absurd h
add_terms (fin s m e) (fin t n d) h = (tt, tt)

square_term : (x : Float) → T (finite (mul binary64 x x)) → T (finite x)
unfolding mul
square_term nan h = absurd h
square_term (inf s) h = absurd h
square_term (fin s m e) h = tt

-- ---- squares and their sums have a plus sign
square_sign : (x : Float) → T (finite (mul binary64 x x)) → minus_sign (mul binary64 x x) ≡ false
unfolding mul
square_sign nan h = absurd h
square_sign (inf s) h = absurd h
square_sign (fin true m e) h = round_sign false (m * up e * (m * up e)) (down e * down e) h
square_sign (fin false m e) h = round_sign false (m * up e * (m * up e)) (down e * down e) h

add_sign : (x y : Float) → T (finite x) → T (finite y) → minus_sign x ≡ false → minus_sign y ≡ false → T (finite (add binary64 x y)) → minus_sign (add binary64 x y) ≡ false
unfolding add sum
add_sign nan y p q s t h = absurd p
add_sign (inf u) y p q s t h = absurd p
add_sign (fin u m e) nan p q s t h = absurd q
add_sign (fin u m e) (inf v) p q s t h = absurd q
add_sign (fin true m e) (fin v n d) p q s t h = absurd (true≢false s)
add_sign (fin false m e) (fin true n d) p q s t h = absurd (true≢false t)
add_sign (fin false m e) (fin false n d) p q s t h = round_sign false (m * up e * down d + n * up d * down e) (down e * down d) h

-- ---- the terms of a sum of squares
-- c and its rounded square are finite, and the square is at most s
pub record Term (c s : Float) : Type 0 where
  pub is_finite : T (finite c)
  pub square_finite : T (finite (mul binary64 c c))
  pub at_most : units (mul binary64 c c) ≤ units s

-- t + c * c, where t is finite with a plus sign
module _ (t c : Float) (ft : T (fits binary64 t)) (st : minus_sign t ≡ false) (h : T (finite (add binary64 t (mul binary64 c c)))) where
  abbrev square : Float
  square = mul binary64 c c

  terms : T (finite t) × T (finite square)
  terms = add_terms t square h

  -- has a plus sign
  pub sum_sign : minus_sign (add binary64 t square) ≡ false
  sum_sign = add_sign t square terms.0 terms.1 st (square_sign c terms.1) h

  -- is at least t
  pub first_le : units t ≤ units (add binary64 t square)
  first_le = units_le t (add binary64 t square) ft (add-fits binary64 t square) (add_grows_left t square terms.0 terms.1 st (square_sign c terms.1) h ft)

  -- and at least c * c
  pub last_term : Term c (add binary64 t square)
  last_term = record {
    is_finite = square_term c terms.1;
    square_finite = terms.1;
    at_most = units_le square (add binary64 t square) (mul-fits binary64 c c) (add-fits binary64 t square) (add_grows_right t square terms.0 terms.1 st (square_sign c terms.1) h (mul-fits binary64 c c));
  }

raise : (c t s : Float) → Term c t → units t ≤ units s → Term c s
raise c t s p h = record { is_finite = p.is_finite; square_finite = p.square_finite; at_most = le_trans p.at_most h }

-- ---- a finite squared length
-- it is an f64 with a plus sign, and no smaller than the square of each component
pub record Squared (x y z : Float) : Type 0 where
  pub fit : T (fits binary64 (squared x y z))
  pub sign : minus_sign (squared x y z) ≡ false
  pub at_x : Term x (squared x y z)
  pub at_y : Term y (squared x y z)
  pub at_z : Term z (squared x y z)

-- each squared length that is finite is so
pub squared_of : (x y z : Float) → T (finite (squared x y z)) → Squared x y z
squared_of x y z h =
    let xx = mul binary64 x x in
    let yy = mul binary64 y y in
    let zz = mul binary64 z z in
    let t = add binary64 xx yy in
    let s = add binary64 t zz in
    let ht = (add_terms t zz h).0 in
    let hx = (add_terms xx yy ht).0 in
    let sx = square_sign x hx in
    let fx = mul-fits binary64 x x in
    let ft = add-fits binary64 xx yy in
    let st = sum_sign xx y fx sx ht in
    let ts = first_le t z ft st h in
    record {
      fit = squared_fits x y z;
      sign = sum_sign t z ft st h;
      at_x = record { is_finite = square_term x hx; square_finite = hx; at_most = le_trans (first_le xx y fx sx ht) ts };
      at_y = raise y t s (last_term xx y fx sx ht) ts;
      at_z = last_term t z ft st h;
    }
