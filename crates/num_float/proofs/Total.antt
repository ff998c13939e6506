-- A running sum: a bound on it, and that it is not negative.
use mathlib.Core.Path.{◌≡◌, sym, subst}
use mathlib.Core.List.{List, [], ◌∷◌}
use Prim.Native.Nat.{ℕ, suc, ◌+◌, ◌*◌, ◌^◌, ◌≤◌, ◌<◌}
use native.Mathlib.Nat.{le_of_eq, add-zero, suc-mul}
use native.Mathlib.Omega.{arith}
use lib.ListN.{length}
use lib.Ieee.{Float, binary64, add}
use Rattle.num_float.specs.Sign.{NonNeg}
use Rattle.num_float.specs.Within.{Within}
use Rattle.num_float.specs.Work.{total, AllWithin, AllNonNeg}
use Rattle.num_float.proofs.Within.{held_pow, add_within}
use Rattle.num_float.proofs.Sign.{add_nonneg}

-- i * 2 ^ k and n terms of at most 2 ^ k in size: at most (i + n) * 2 ^ k
pub total_within : (xs : List Float) (a : Float) (i k : ℕ) → k ≤ 971 → i + length xs < 2 ^ 53 → Within a (i * 2 ^ k) → AllWithin xs (2 ^ k) → Within (total a xs) ((i + length xs) * 2 ^ k)
unfolding total AllWithin
total_within [] a i k K h w z = subst (λ (n : ℕ). Within a (n * 2 ^ k)) (sym (add-zero i)) w
total_within (x ∷ xs) a i k K h w z =
    subst (λ (n : ℕ). Within (total (add binary64 a x) xs) (n * 2 ^ k)) (shift i (length xs))
    (total_within xs (add binary64 a x) (suc i) k K (fewer i (length xs) h)
    (add_within a x (i * 2 ^ k) (2 ^ k) (suc i * 2 ^ k) w z.0 (le_of_eq (sym (suc-mul i (2 ^ k)))) (held_pow (suc i) k (one i (length xs) h) K))
    z.1)
  where
    shift : (i n : ℕ) → suc i + n ≡ i + suc n
    shift i n = omega arith

    fewer : (i n : ℕ) → i + suc n < 2 ^ 53 → suc i + n < 2 ^ 53
    fewer i n h = omega arith

    one : (i n : ℕ) → i + suc n < 2 ^ 53 → suc i < 2 ^ 53
    one i n h = omega arith

-- a running sum of numbers that are not negative is not negative
pub total_nonneg : (xs : List Float) (a : Float) → NonNeg a → AllNonNeg xs → NonNeg (total a xs)
unfolding total AllNonNeg
total_nonneg [] a p q = p
total_nonneg (x ∷ xs) a p q = total_nonneg xs (add binary64 a x) (add_nonneg a x p q.0) q.1
