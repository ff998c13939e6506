-- The square root is monotone, not negative, and at most b for a number of at most b * b.
use mathlib.Core.Path.{◌≡◌, refl, sym, ap, ◌∙◌}
use mathlib.Core.Logic.{inl, inr}
use mathlib.Core.Bool.{Bool, true, false, cond}
use Prim.Native.Nat.{ℕ, zero, suc, ◌+◌, ◌*◌, ◌/◌, ◌^◌, ◌≤◌, ◌<◌, zero-le}
use native.Mathlib.Nat.{le_trans, le_of_eq, le_refl, le-add_right, mul-le-mul_right, le_antisymm, eq-or-lt_of_le, zero-mul, mul-one, mul-pos, zero-lt-suc, mul_right_comm, mul_assoc, mul-mul-mul_comm, div-one}
use native.Mathlib.Omega.{arith}
use lib.IntN.{ℤ}
use lib.Dec.{T, eqb, eqb→eq, lit<}
use lib.Pow.{pow_pos, pow-add}
use lib.Ieee.{Float, nan, inf, fin, binary64, up, down, size, round, of_bits, le}
use lib.Ieee.Bits.{is_true}
use lib.Ieee.Fits.{eq→eqb, up_pos, down_pos}
use lib.Ieee.Order.{round_mono}
use lib.Ieee.Nearest.{div_mono}
use Rattle.num_root.specs.Root.{twice_root, root_of, root, whole_root}
use Rattle.num_root.proofs.WholeRoot.{IsRoot, whole_root_lem, square_lt}
use Rattle.num_float.specs.Sign.{NonNeg}
use Rattle.num_float.specs.Within.{Within}
use Rattle.num_float.specs.Work.{Held}
use Rattle.num_float.proofs.Tests.{holds}
use Rattle.num_float.proofs.Line.{le→≤}
use Rattle.num_float.proofs.NonNegative.{nonneg_plus, nonneg_zero, nonneg_above, minus_suc, zero_least, infinity_greatest, as_fractions}
use Rattle.num_float.proofs.Rounding.{round_nonneg, round_within}

-- ---- whole numbers: `twice_root n` is twice the root of n, rounded to the odd number where the root is no whole number
twice_root_is : (n : ℕ) → twice_root n ≡ whole_root (size n) n * 2 + cond (eqb (whole_root (size n) n * whole_root (size n) n) n) 0 1
unfolding twice_root
twice_root_is n = refl

root_le : (a b s t : ℕ) → a ≤ b → IsRoot a s → IsRoot b t → s ≤ t
root_le a b s t h S W = let l : s < suc t = square_lt s (suc t) (let x = S.below in let y = W.above in omega arith) in omega arith

twice_root_mono : (a b : ℕ) → a ≤ b → twice_root a ≤ twice_root b
twice_root_mono a b h =
    let s = whole_root (size a) a in
    let t = whole_root (size b) b in
    rw (twice_root_is a, twice_root_is b) (go s t (root_le a b s t h (whole_root_lem a) (whole_root_lem b)) (whole_root_lem a).below (eqb (s * s) a) (eqb (t * t) b) (λ e. eq→eqb e) (eqb→eq (t * t) b))
  where
    same : (s t : ℕ) → s ≤ t → t ≤ s → t * t ≡ b → s * s ≤ a → s * s ≡ a
    same s t l g e k = let z : s * s ≡ t * t = ap (λ (x : ℕ). x * x) (le_antisymm l g) in omega arith

    go : (s t : ℕ) → s ≤ t → s * s ≤ a → (u v : Bool) → (s * s ≡ a → T u) → (T v → t * t ≡ b) → s * 2 + cond u 0 1 ≤ t * 2 + cond v 0 1
    go s t l k true v p q = le_trans (omega arith) (le-add_right (t * 2) (cond v 0 1))
    go s t l k false false p q = omega arith
    go s t l k false true p q = elim (eq-or-lt_of_le l) [
      | inl e ↦ absurd (p (same s t l (le_of_eq (sym e)) (q tt) k))
      | inr g ↦ omega arith
    ]

-- the root of a square is exact
square_root : (a : ℕ) → IsRoot (a * a) a
square_root a = record { below = le_refl (a * a); above = omega arith }

twice_root_square : (a : ℕ) → twice_root (a * a) ≤ a * 2
twice_root_square a =
    let s = whole_root (size (a * a)) (a * a) in
    rw (twice_root_is (a * a)) (go s (root_le (a * a) (a * a) s a (le_refl (a * a)) (whole_root_lem (a * a)) (square_root a)) (eqb (s * s) (a * a)) (λ e. eq→eqb e))
  where
    go : (s : ℕ) → s ≤ a → (b : Bool) → (s * s ≡ a * a → T b) → s * 2 + cond b 0 1 ≤ a * 2
    go s l true p = omega arith
    go s l false p = elim (eq-or-lt_of_le l) [
      | inl e ↦ absurd (p (ap (λ (k : ℕ). k * k) e))
      | inr g ↦ omega arith
    ]

-- ---- the root of ±m * 2 ^ e
-- the operand in units of 2 ^ -2148, whose root is in units of 2 ^ -1074
abbrev operand : ℕ → ℤ → ℕ
operand m e = m * up e * 2 ^ 1074 / down e * 2 ^ 1074

-- above zero it is rounded once
pub root_plus : (m : ℕ) (e : ℤ) → root (fin false (suc m) e) ≡ round binary64 false (twice_root (operand (suc m) e)) (2 ^ 1075)
unfolding root root_of
root_plus m e = refl

-- a zero stays
pub root_zero : (s : Bool) (e : ℤ) → root (fin s 0 e) ≡ fin s 0 e
unfolding root
root_zero s e = refl

operand_mono : (m : ℕ) (e : ℤ) (n : ℕ) (d : ℤ) → m * up e * down d ≤ n * up d * down e → operand m e ≤ operand n d
operand_mono m e n d h =
    mul-le-mul_right (2 ^ 1074)
    (div_mono (m * up e * 2 ^ 1074) (down e) (n * up d * 2 ^ 1074) (down d) (down_pos e) (down_pos d)
    (le_trans (le_of_eq (mul_right_comm (m * up e) (2 ^ 1074) (down d))) (le_trans (mul-le-mul_right (2 ^ 1074) h) (le_of_eq (mul_right_comm (n * up d) (down e) (2 ^ 1074))))))

-- ---- the laws
-- the root of a number that is not negative is not negative; an infinity and both zeros are included
pub root_nonneg : (x : Float) → NonNeg x → NonNeg (root x)
unfolding le of_bits
root_nonneg nan p = absurd (holds p)
root_nonneg (inf true) p = absurd (holds p)
root_nonneg (inf false) p = unfold root in p
root_nonneg (fin s zero e) p = rw (root_zero s e) p
root_nonneg (fin true (suc m) e) p = absurd (minus_suc m e p)
root_nonneg (fin false (suc m) e) p = rw (root_plus m e) (round_nonneg (twice_root (operand (suc m) e)) (2 ^ 1075) (pow_pos 1075))

-- 0 <= x <= y gives root x <= root y; infinities and both zeros are included
pub root_mono : (x y : Float) → NonNeg x → le x y ≡ true → le (root x) (root y) ≡ true
unfolding le of_bits
root_mono nan y p h = absurd (holds p)
root_mono (inf true) y p h = absurd (holds p)
root_mono (inf false) nan p h = absurd (holds h)
root_mono (inf false) (inf true) p h = absurd (holds h)
root_mono (inf false) (inf false) p h = unfold root in h
root_mono (inf false) (fin t n d) p h = absurd (holds h)
root_mono (fin s zero e) y p h = rw (root_zero s e) (zero_least s e (root y) (root_nonneg y (nonneg_above (fin s zero e) y p h)))
root_mono (fin true (suc m) e) y p h = absurd (minus_suc m e p)
root_mono (fin false (suc m) e) nan p h = absurd (holds h)
root_mono (fin false (suc m) e) (inf true) p h = absurd (holds h)
root_mono (fin false (suc m) e) (inf false) p h = unfold root in infinity_greatest (root (fin false (suc m) e)) (root_nonneg (fin false (suc m) e) p)
root_mono (fin false (suc m) e) (fin s zero d) p h =
    absurd (no (suc m * up e * down d) (0 * up d * down e) (mul-pos (mul-pos (zero-lt-suc m) (up_pos e)) (down_pos d)) (ap (λ (k : ℕ). k * down e) (zero-mul (up d)) ∙ zero-mul (down e))
    (le→≤ (as_fractions (fin false (suc m) e) (fin s zero d) tt tt p (nonneg_zero s d)) h))
  where
    no : (a b : ℕ) → 0 < a → b ≡ 0 → a ≤ b → ⊥
    no a b p e h = omega arith
root_mono (fin false (suc m) e) (fin true (suc n) d) p h = absurd (minus_suc n d (nonneg_above (fin false (suc m) e) (fin true (suc n) d) p h))
root_mono (fin false (suc m) e) (fin false (suc n) d) p h =
    let a = twice_root (operand (suc m) e) in
    let b = twice_root (operand (suc n) d) in
    let l : a ≤ b = twice_root_mono (operand (suc m) e) (operand (suc n) d) (operand_mono (suc m) e (suc n) d (le→≤ (as_fractions (fin false (suc m) e) (fin false (suc n) d) tt tt p (nonneg_plus (suc n) d)) h)) in
    rw (root_plus m e, root_plus n d)
    (is_true (le (round binary64 false a (2 ^ 1075)) (round binary64 false b (2 ^ 1075))) (round_mono binary64 a (2 ^ 1075) b (2 ^ 1075) (pow_pos 1075) (pow_pos 1075) (mul-le-mul_right (2 ^ 1075) l)))

operand_le : (m : ℕ) (e : ℤ) (b : ℕ) → m * up e ≤ b * b * down e → operand m e ≤ b * 2 ^ 1074 * (b * 2 ^ 1074)
operand_le m e b h =
    let l = 2 ^ 1074 in
    le_trans
    (mul-le-mul_right l
    (div_mono (m * up e * l) (down e) (b * b * l) 1 (down_pos e) (lit< tt)
    (le_trans (le_of_eq (mul-one (m * up e * l))) (le_trans (mul-le-mul_right l h) (le_of_eq (mul_right_comm (b * b) (down e) l))))))
    (le_of_eq (ap (λ (k : ℕ). k * l) (div-one (b * b * l)) ∙ mul_assoc (b * b) l l ∙ mul-mul-mul_comm b b l l))

-- the root of a number of at most b * b in size is at most b in size
pub root_within : (x : Float) (b : ℕ) → NonNeg x → Held b → Within x (b * b) → Within (root x) b
root_within nan b p H w = absurd w.is_finite
root_within (inf s) b p H w = absurd w.is_finite
root_within (fin s zero e) b p H w = rw (root_zero s e) (record { is_finite = tt; size = le_trans (le_of_eq (zero-mul (up e))) zero-le })
root_within (fin true (suc m) e) b p H w = absurd (minus_suc m e p)
root_within (fin false (suc m) e) b p H w =
    let a = b * 2 ^ 1074 in
    rw (root_plus m e)
    (round_within false (twice_root (operand (suc m) e)) (2 ^ 1075) b (pow_pos 1075) H
    (le_trans (twice_root_mono (operand (suc m) e) (a * a) (operand_le (suc m) e b w.size))
    (le_trans (twice_root_square a) (le_of_eq (mul_assoc b (2 ^ 1074) 2 ∙ ap (λ (k : ℕ). b * k) (sym (pow-add 2 1074 1)))))))
