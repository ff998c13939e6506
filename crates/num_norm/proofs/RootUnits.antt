-- The square root of an f64 that is finite and not negative: an f64, finite, nearest the exact root, and at least 2 ^ -537 unless it is zero.
use mathlib.Core.Path.{◌≡◌, refl, sym, ap, subst}
use mathlib.Core.Bool.{true, false, true≢false}
use Prim.Native.Nat.{ℕ, zero, suc, ◌*◌, ◌<◌}
use native.Mathlib.Nat.{le_trans, le_of_eq, mul-le-mul_right, mul-one, mul-pos, zero-lt-suc}
use lib.IntN.{negsuc}
use lib.Dec.{T}
use lib.Ieee.{Float, nan, inf, fin, binary64, down, fits, lt, le, of_bits}
use lib.Ieee.Fits.{up_pos}
use lib.Ieee.Scale.{finite}
use Rattle.num_root.specs.Root.{root}
use Rattle.num_root.specs.Nearest.{Nearest}
use Rattle.num_root.proofs.Nearest.{root_nearest}
use Rattle.num_float.specs.Sign.{plus_zero, NonNeg}
use Rattle.num_float.specs.Units.{units, minus_sign}
use Rattle.num_float.proofs.Tests.{holds}
use Rattle.num_float.proofs.Line.{≤→le}
use Rattle.num_float.proofs.NonNegative.{nonneg_plus, minus_suc, above_num, as_fractions}
use Rattle.num_float.proofs.Units.{units_are, units_pos}
use Rattle.num_norm.proofs.RootOrder.{root_mono, root_zero}

-- ---- the root of an f64 s above zero with no minus sign
module _ (s : Float) (f : T (fits binary64 s)) (n : T (finite s)) (sign : minus_sign s ≡ false) (above : 0 < units s) where
  -- is nearest the exact root
  pub nearest : Nearest s (root s)
  nearest = root_nearest s (record { held = f; number = n; plus = sign }) above

  -- and finite
  pub nearest_finite : T (finite (root s))
  nearest_finite = nearest.is.number

-- the root of a finite f64 that is not negative is finite
pub root_finite : (x : Float) → T (fits binary64 x) → T (finite x) → NonNeg x → T (finite (root x))
root_finite nan f n p = absurd n
root_finite (inf s) f n p = absurd n
root_finite (fin s zero e) f n p = rw (root_zero s e) tt
root_finite (fin true (suc m) e) f n p = absurd (minus_suc m e p)
root_finite (fin false (suc m) e) f n p = nearest_finite (fin false (suc m) e) f tt refl (units_pos (fin false (suc m) e) f (mul-pos (zero-lt-suc m) (up_pos e)))

-- a root above zero is of a number above zero
pub root_above : (x : Float) → T (fits binary64 x) → T (finite x) → minus_sign x ≡ false → lt plus_zero (root x) ≡ true → 0 < units x
root_above nan f n s h = absurd n
root_above (inf t) f n s h = absurd n
root_above (fin true m e) f n s h = absurd (true≢false s)
root_above (fin false (suc m) e) f n s h = units_pos (fin false (suc m) e) f (mul-pos (zero-lt-suc m) (up_pos e))
root_above (fin false zero e) f n s h = units_pos (fin false zero e) f (above_num (fin false zero e) tt (subst (λ (k : Float). lt plus_zero k ≡ true) (root_zero false e) h))

-- ---- the smallest positive f64, 2 ^ -1074, and its root
abbrev smallest : Float
smallest = fin false 1 (negsuc 1073)

-- 2 ^ -537
abbrev pub smallest_root : Float
smallest_root = fin false 1 (negsuc 536)

root_smallest : root smallest ≡ smallest_root
unfolding root
root_smallest = refl

smallest_le : (x : Float) → T (fits binary64 x) → lt plus_zero x ≡ true → le smallest x ≡ true
unfolding lt of_bits
smallest_le nan f h = absurd (holds h)
smallest_le (inf true) f h = absurd (holds h)
smallest_le (inf false) f h = unfold le in refl
smallest_le (fin true m e) f h = absurd (holds h)
smallest_le (fin false m e) f h =
    let x = fin false m e in
    ≤→le (as_fractions smallest x tt tt (nonneg_plus 1 (negsuc 1073)) (nonneg_plus m e))
    (le_trans (le_of_eq (ap (λ (k : ℕ). k * down e) (mul-one 1))) (le_trans (mul-le-mul_right (down e) (units_pos x f (above_num x tt h))) (le_of_eq (sym (units_are x f)))))

-- the root of an f64 above zero is at least 2 ^ -537
pub smallest_root_le : (x : Float) → T (fits binary64 x) → lt plus_zero x ≡ true → le smallest_root (root x) ≡ true
smallest_root_le x f h = subst (λ (z : Float). le z (root x) ≡ true) root_smallest (root_mono smallest x (nonneg_plus 1 (negsuc 1073)) (smallest_le x f h))
