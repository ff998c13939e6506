-- `normalized`: it divides by the length, from 1e-300 on, and its components are at most 1 or 2 in size.
use mathlib.Core.Path.{◌≡◌, refl, sym, subst}
use mathlib.Core.Logic.{inl, inr}
use mathlib.Core.Bool.{Bool, true, false, cond}
use Prim.Native.Nat.{ℕ, suc, ◌+◌, ◌*◌, ◌^◌, ◌≤◌, ◌<◌}
use native.Mathlib.Nat as Nat
use native.Mathlib.Nat.{le_of_eq, mul-le-mul, mul-le-mul_right, one-mul}
use native.Mathlib.Omega.{arith}
use lib.Dec.{T, lit≤}
use lib.Ieee.{Float, binary64, fits, mul, div, lt, eq, le, of_bits}
use lib.Ieee.Scale.{finite}
use Rattle.num_float.specs.Sign.{plus_zero}
use Rattle.num_float.specs.Units.{units}
use Rattle.num_float.specs.Work.{gap, Bounded}
use Rattle.num_float.proofs.Tests.{contrary, lt_or_ge}
use Rattle.num_float.proofs.Order.{lt_le_trans, le_trans, le_not_lt, not_lt_le, le_numbers}
use Rattle.num_float.proofs.NonNegative.{plus_nonneg, finite_number, num_above}
use Rattle.num_float.proofs.Within.{wider}
use Rattle.num_float.proofs.Units.{units_within, num_pos}
use Rattle.num_float.proofs.Error.{mul_error}
use Rattle.num_norm.specs.Length.{squared, length, normalized, e_300}
use Rattle.num_norm.proofs.RootUnits.{smallest_root, smallest_root_le}
use Rattle.num_norm.proofs.Squares.{Term, squared_of}
use Rattle.num_norm.proofs.Length.{length_of_lem}
use Rattle.num_norm.proofs.Component.{two_to_minus_484, ComponentsBounded, components_1, components_2}

-- ---- the constant 1e-300
zero_lt_e_300 : lt plus_zero e_300 ≡ true
unfolding of_bits lt
zero_lt_e_300 = refl

e_300_le_smallest_root : le e_300 smallest_root ≡ true
unfolding of_bits le lt eq
e_300_le_smallest_root = refl

e_300_le_484 : le e_300 two_to_minus_484 ≡ true
unfolding of_bits le lt eq
e_300_le_484 = refl

-- ---- a length below 1e-300 is 0, and then each component is at most 1 in size
no_units : (x y z : Float) → T (finite (squared x y z)) → lt (length x y z) e_300 ≡ true → units (squared x y z) ≤ 0
no_units x y z h l =
    let s = squared x y z in
    let S = squared_of x y z h in
    let n : lt (length x y z) smallest_root ≡ true = lt_le_trans (length x y z) e_300 smallest_root l e_300_le_smallest_root in
    flip (units s) (λ (p : 0 < units s).
    contrary n (le_not_lt smallest_root (length x y z) (smallest_root_le s S.fit (num_above s h (plus_nonneg s h S.sign) (num_pos s S.fit p)))))
  where
    flip : (k : ℕ) → (0 < k → ⊥) → k ≤ 0
    flip k h = omega arith

-- X units are at most 1 where the rounded square is 0
tiny_units : (X Q l : ℕ) → gap (Q * l) (X * X) * 2 ^ 53 ≤ X * X + 2 ^ 52 * l → Q ≤ 0 → X ≤ l
tiny_units X Q l off h = elim (lt_or_ge l X) [
  | inl g ↦ absurd (
      let a : suc l * 1 ≤ X * X = mul-le-mul g (omega arith) in
      let b : Q * l ≤ 0 * l = mul-le-mul_right l h in
      no (X * X) (Q * l) l off (omega arith) (omega arith))
  | inr k ↦ k
]
  where
    no : (c q l : ℕ) → gap q c * 2 ^ 53 ≤ c + 2 ^ 52 * l → q ≤ 0 → l < c → ⊥
    no c q l h k i = omega arith

tiny_component : (c s : Float) → T (fits binary64 c) → Term c s → units s ≤ 0 → Bounded c 1
tiny_component c s f t z = record {
  fit = f;
  within = units_within c 1 f t.is_finite
      (Nat.le_trans (tiny_units (units c) (units (mul binary64 c c)) (2 ^ 1074) (mul_error c c f f t.is_finite t.is_finite t.square_finite) (Nat.le_trans t.at_most z)) (le_of_eq (sym (one-mul (2 ^ 1074)))));
}

-- ---- the laws
-- from a length of 1e-300 on a component is divided by it
pub normalized_is : (x y z c : Float) → le e_300 (length x y z) ≡ true → normalized x y z c ≡ div binary64 c (length x y z)
normalized_is x y z c l = pick (lt (length x y z) e_300) (le_not_lt e_300 (length x y z) l)
  where
    pick : (b : Bool) → b ≡ false → cond b c (div binary64 c (length x y z)) ≡ div binary64 c (length x y z)
    pick true h = absurd (contrary refl h)
    pick false h = refl

-- each component of the normalized vector is an f64 of at most C in size
pub record NormalizedBounded (x y z : Float) (C : ℕ) : Type 0 where
  pub at_x : Bounded (normalized x y z x) C
  pub at_y : Bounded (normalized x y z y) C
  pub at_z : Bounded (normalized x y z z) C

module _ (x y z : Float) (fx : T (fits binary64 x)) (fy : T (fits binary64 y)) (fz : T (fits binary64 z)) (h : T (finite (squared x y z))) where
  quotients : lt (length x y z) e_300 ≡ false → ComponentsBounded x y z 2
  quotients n =
      components_2 x y z fx fy fz h
      (lt_le_trans plus_zero e_300 (length x y z) zero_lt_e_300 (not_lt_le (length x y z) e_300 (finite_number (length x y z) (length_of_lem x y z h).is_finite) (le_numbers e_300 smallest_root e_300_le_smallest_root).0 n))

  choose : (c : Float) → T (fits binary64 c) → Term c (squared x y z) → (lt (length x y z) e_300 ≡ false → Bounded (div binary64 c (length x y z)) 2) → Bounded (normalized x y z c) 2
  choose c f t q = go (lt (length x y z) e_300) refl
    where
      go : (b : Bool) → lt (length x y z) e_300 ≡ b → Bounded (cond b c (div binary64 c (length x y z))) 2
      go true l = let w = tiny_component c (squared x y z) f t (no_units x y z h l) in record { fit = w.fit; within = wider {x = c} {a = 1} 2 (lit≤ tt) w.within }
      go false n = q n

  -- for any vector, zero included, whose squared length is finite
  pub normalized_2 : NormalizedBounded x y z 2
  normalized_2 =
      let S = squared_of x y z h in
      record {
        at_x = choose x fx S.at_x (λ n. (quotients n).at_x);
        at_y = choose y fy S.at_y (λ n. (quotients n).at_y);
        at_z = choose z fz S.at_z (λ n. (quotients n).at_z);
      }

  -- for a length of at least 2 ^ -484
  pub normalized_1 : le two_to_minus_484 (length x y z) ≡ true → NormalizedBounded x y z 1
  normalized_1 l =
      let q = components_1 x y z fx fy fz h l in
      let e = le_trans e_300 two_to_minus_484 (length x y z) e_300_le_484 l in
      record {
        at_x = subst (λ (k : Float). Bounded k 1) (sym (normalized_is x y z x e)) q.at_x;
        at_y = subst (λ (k : Float). Bounded k 1) (sym (normalized_is x y z y e)) q.at_y;
        at_z = subst (λ (k : Float). Bounded k 1) (sym (normalized_is x y z z e)) q.at_z;
      }
