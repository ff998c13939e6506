-- A component of a vector over the vector's length: at most 1 in size for a length of at least 2 ^ -484, and at most 2 for any length above zero.
use mathlib.Core.Path.{◌≡◌, refl, sym}
use mathlib.Core.Bool.{true, false}
use Prim.Native.Nat.{ℕ, ◌*◌, ◌^◌, ◌≤◌}
use native.Mathlib.Nat as Nat
use native.Mathlib.Nat.{le_of_eq, one-mul}
use lib.IntN.{negsuc}
use lib.Dec.{T, lit<}
use lib.Ieee.{Float, fin, binary64, fits, div, lt, le, of_bits}
use lib.Ieee.Fits.{div-fits}
use lib.Ieee.Scale.{finite}
use Rattle.num_root.specs.Root.{root}
use Rattle.num_root.proofs.Signs.{root_fits}
use Rattle.num_float.specs.Sign.{plus_zero}
use Rattle.num_float.specs.Units.{units, minus_sign}
use Rattle.num_float.specs.Work.{Bounded, Held}
use Rattle.num_float.proofs.Line.{le→≤}
use Rattle.num_float.proofs.Order.{lt_le_trans, le_trans, not_lt_le, le_numbers}
use Rattle.num_float.proofs.NonNegative.{nonneg_plus, nonneg_above, plus_nonneg, finite_number, above_num, as_fractions}
use Rattle.num_float.proofs.Within.{held_small, ratio_within}
use Rattle.num_float.proofs.Units.{units_le, cross_of_units}
use Rattle.num_norm.specs.Length.{squared, length}
use Rattle.num_norm.proofs.RootUnits.{root_finite, root_above}
use Rattle.num_norm.proofs.Squares.{Term, squared_of}
use Rattle.num_norm.proofs.Length.{length_of_lem}
use Rattle.num_norm.proofs.RootBound.{le_twice_root, le_root}

-- the f64 2 ^ -484
abbrev pub two_to_minus_484 : Float
two_to_minus_484 = fin false 1 (negsuc 483)

-- ---- c / root s, for an s that is no smaller than the rounded square of c
module _ (c s : Float) (fc : T (fits binary64 c)) (t : Term c s) (fs : T (fits binary64 s)) (ns : T (finite s)) (sign : minus_sign s ≡ false) where
  finite_root : T (finite (root s))
  finite_root = root_finite s fs ns (plus_nonneg s ns sign)

  over_root : (C : ℕ) → lt plus_zero (root s) ≡ true → Held C → units c ≤ C * units (root s) → Bounded (div binary64 c (root s)) C
  over_root C above H h = record {
    fit = div-fits binary64 c (root s);
    within = ratio_within c (root s) C t.is_finite finite_root (above_num (root s) finite_root above) (cross_of_units c (root s) fc (root_fits s fs) C h) H;
  }

  -- at most 2 in size
  pub over_root_2 : lt plus_zero (root s) ≡ true → Bounded (div binary64 c (root s)) 2
  over_root_2 above = over_root 2 above (held_small 2 (lit< tt)) (le_twice_root c s fc t fs ns sign (root_above s fs ns sign above))

  -- at most 1 in size
  pub over_root_1 : le two_to_minus_484 (root s) ≡ true → Bounded (div binary64 c (root s)) 1
  over_root_1 h =
      let above : lt plus_zero (root s) ≡ true = lt_le_trans plus_zero two_to_minus_484 (root s) (unfold lt in unfold of_bits in refl) h in
      let p = nonneg_plus 1 (negsuc 483) in
      let u : 2 ^ 590 ≤ units (root s) =
      units_le two_to_minus_484 (root s) (unfold fits in tt) (root_fits s fs) (le→≤ (as_fractions two_to_minus_484 (root s) tt finite_root p (nonneg_above two_to_minus_484 (root s) p h)) h) in
      over_root 1 above (held_small 1 (lit< tt)) (Nat.le_trans (le_root c s fc t fs ns sign (root_above s fs ns sign above) u) (le_of_eq (sym (one-mul (units (root s))))))

-- ---- a vector over its length
-- each component over the length is an f64 of at most C in size
pub record ComponentsBounded (x y z : Float) (C : ℕ) : Type 0 where
  pub at_x : Bounded (div binary64 x (length x y z)) C
  pub at_y : Bounded (div binary64 y (length x y z)) C
  pub at_z : Bounded (div binary64 z (length x y z)) C

module _ (x y z : Float) (fx : T (fits binary64 x)) (fy : T (fits binary64 y)) (fz : T (fits binary64 z)) (h : T (finite (squared x y z))) where
  -- for any length above zero
  pub components_2 : lt plus_zero (length x y z) ≡ true → ComponentsBounded x y z 2
  components_2 above =
      let S = squared_of x y z h in
      record {
        at_x = over_root_2 x (squared x y z) fx S.at_x S.fit h S.sign above;
        at_y = over_root_2 y (squared x y z) fy S.at_y S.fit h S.sign above;
        at_z = over_root_2 z (squared x y z) fz S.at_z S.fit h S.sign above;
      }

  -- for a length of at least 2 ^ -484
  pub components_1 : le two_to_minus_484 (length x y z) ≡ true → ComponentsBounded x y z 1
  components_1 l =
      let S = squared_of x y z h in
      record {
        at_x = over_root_1 x (squared x y z) fx S.at_x S.fit h S.sign l;
        at_y = over_root_1 y (squared x y z) fy S.at_y S.fit h S.sign l;
        at_z = over_root_1 z (squared x y z) fz S.at_z S.fit h S.sign l;
      }

  -- what `if length < c { return .. }` leaves, for a c of at least 2 ^ -484
  pub components_tested : (c : Float) → le two_to_minus_484 c ≡ true → lt (length x y z) c ≡ false → ComponentsBounded x y z 1
  components_tested c k n =
      components_1
      (le_trans two_to_minus_484 c (length x y z) k (not_lt_le (length x y z) c (finite_number (length x y z) (length_of_lem x y z h).is_finite) (le_numbers two_to_minus_484 c k).1 n))
