-- Whole numbers in 64 bits: sizes of sums and products, and what the code's steps compute where none leaves the range of i64.
use mathlib.Core.Path.{◌≡◌, refl, sym, ap, ◌∙◌, subst}
use mathlib.Core.Bool.{Bool, true, false, ◌&&◌, cond}
use Prim.Native.Nat.{ℕ, zero, suc, ◌+◌, ◌-◌, ◌*◌, ◌^◌, ◌≤◌, ◌<◌}
use native.Mathlib.Nat.{le_trans, le_of_eq, le_of_lt, lt_of_le_of_lt, le_refl, mul-le-mul}
use native.Mathlib.Omega.{arith}
use lib.Dec.{T, ltb, ltb→lt, lit<, lit≤}
use lib.IntN.{ℤ, pos, negsuc, neg_ℤ, nat_abs, sub_ℕ, ◌+ℤ◌, ◌-ℤ◌, ◌*ℤ◌}
use lib.Signed.{lt_z}
use mir.Syntax.{w64}
use mir.Val.{SFits, to_z, of_z}
use mir.Facts.{to_z-of_z}
use Rattle.round_hole.specs.declared.direction.Direction.{Direction}
use Rattle.round_hole.specs.Direction.{cross_of, dot_of, is_less, follows}

-- ---- sizes
pub size_neg : (z : ℤ) → nat_abs (neg_ℤ z) ≡ nat_abs z
size_neg (pos zero) = refl
size_neg (pos (suc n)) = refl
size_neg (negsuc n) = refl

pub size_mul : (a b : ℤ) → nat_abs (a *ℤ b) ≡ nat_abs a * nat_abs b
size_mul (pos m) (pos n) = refl
size_mul (pos m) (negsuc n) = size_neg (pos (m * suc n))
size_mul (negsuc m) (pos n) = size_neg (pos (suc m * n))
size_mul (negsuc m) (negsuc n) = refl

size_difference : (m n : ℕ) → nat_abs (sub_ℕ m n) ≤ m + n
size_difference m n = go (ltb m n) (ltb→lt m n)
  where
    go : (t : Bool) → (T t → m < n) → nat_abs (cond t (negsuc (n - suc m)) (pos (m - n))) ≤ m + n
    go true h = omega (arith, h tt)
    go false h = omega arith

pub size_add : (a b : ℤ) → nat_abs (a +ℤ b) ≤ nat_abs a + nat_abs b
size_add (pos m) (pos n) = le_refl (m + n)
size_add (pos m) (negsuc n) = size_difference m (suc n)
size_add (negsuc m) (pos n) = omega (arith, size_difference n (suc m))
size_add (negsuc m) (negsuc n) = omega arith

pub size_sub : (a b : ℤ) → nat_abs (a -ℤ b) ≤ nat_abs a + nat_abs b
size_sub a b = le_trans (size_add a (neg_ℤ b)) (le_of_eq (ap (λ (n : ℕ). nat_abs a + n) (size_neg b)))

pub size_product : (a b : ℤ) (m n : ℕ) → nat_abs a ≤ m → nat_abs b ≤ n → nat_abs (a *ℤ b) ≤ m * n
size_product a b m n h k = le_trans (le_of_eq (size_mul a b)) (mul-le-mul h k)

-- ---- the range of i64
pub in_range_lem : (z : ℤ) (b : ℕ) → nat_abs z ≤ b → b < 2 ^ 63 → SFits w64 z
in_range_lem (pos n) b h l = record { sfits = lt_of_le_of_lt h l }
in_range_lem (negsuc n) b h l = record { sfits = le_trans h (le_of_lt l) }

-- what the code reads back
pub read_back : (z : ℤ) (b : ℕ) → nat_abs z ≤ b → b < 2 ^ 63 → to_z w64 (of_z w64 z) ≡ z
read_back z b h l = to_z-of_z (in_range_lem z b h l)

-- ---- the code's products, sums and differences of numbers below 2^22
module _ (a b : ℤ) (ha : nat_abs a < 4194304) (hb : nat_abs b < 4194304) where
  abbrev product : ℤ
  product = to_z w64 (of_z w64 a) *ℤ to_z w64 (of_z w64 b)

  product_size : nat_abs (a *ℤ b) ≤ 17592186044416
  product_size = size_product a b 4194304 4194304 (le_of_lt ha) (le_of_lt hb)

  product_is : product ≡ a *ℤ b
  product_is = rw (read_back a 4194304 (le_of_lt ha) (lit< tt), read_back b 4194304 (le_of_lt hb) (lit< tt))

  pub product_fits : SFits w64 product
  product_fits = subst (SFits w64) (sym product_is) (in_range_lem (a *ℤ b) 17592186044416 product_size (lit< tt))

  product_back : to_z w64 (of_z w64 product) ≡ a *ℤ b
  product_back = to_z-of_z product_fits ∙ product_is

module _ (a b c d : ℤ) (ha : nat_abs a < 4194304) (hb : nat_abs b < 4194304) (hc : nat_abs c < 4194304) (hd : nat_abs d < 4194304) where
  abbrev code_sum_lem : ℤ
  code_sum_lem = to_z w64 (of_z w64 (to_z w64 (of_z w64 a) *ℤ to_z w64 (of_z w64 b))) +ℤ to_z w64 (of_z w64 (to_z w64 (of_z w64 c) *ℤ to_z w64 (of_z w64 d)))

  abbrev code_difference : ℤ
  code_difference = to_z w64 (of_z w64 (to_z w64 (of_z w64 a) *ℤ to_z w64 (of_z w64 b))) -ℤ to_z w64 (of_z w64 (to_z w64 (of_z w64 c) *ℤ to_z w64 (of_z w64 d)))

  sum_is : code_sum_lem ≡ (a *ℤ b) +ℤ (c *ℤ d)
  sum_is = ap (λ (z : ℤ). z +ℤ to_z w64 (of_z w64 (to_z w64 (of_z w64 c) *ℤ to_z w64 (of_z w64 d)))) (product_back a b ha hb)
      ∙ ap (λ (z : ℤ). (a *ℤ b) +ℤ z) (product_back c d hc hd)

  difference_is : code_difference ≡ (a *ℤ b) -ℤ (c *ℤ d)
  difference_is = ap (λ (z : ℤ). z -ℤ to_z w64 (of_z w64 (to_z w64 (of_z w64 c) *ℤ to_z w64 (of_z w64 d)))) (product_back a b ha hb)
      ∙ ap (λ (z : ℤ). (a *ℤ b) -ℤ z) (product_back c d hc hd)

  pub sum_size : nat_abs ((a *ℤ b) +ℤ (c *ℤ d)) ≤ 35184372088832
  sum_size = omega (arith, size_add (a *ℤ b) (c *ℤ d), product_size a b ha hb, product_size c d hc hd)

  pub difference_size : nat_abs ((a *ℤ b) -ℤ (c *ℤ d)) ≤ 35184372088832
  difference_size = omega (arith, size_sub (a *ℤ b) (c *ℤ d), product_size a b ha hb, product_size c d hc hd)

  pub sum_fits : SFits w64 code_sum_lem
  sum_fits = subst (SFits w64) (sym sum_is) (in_range_lem _ 35184372088832 sum_size (lit< tt))

  pub difference_fits : SFits w64 code_difference
  difference_fits = subst (SFits w64) (sym difference_is) (in_range_lem _ 35184372088832 difference_size (lit< tt))

  pub sum_back : to_z w64 (of_z w64 code_sum_lem) ≡ (a *ℤ b) +ℤ (c *ℤ d)
  sum_back = to_z-of_z sum_fits ∙ sum_is

  pub difference_back : to_z w64 (of_z w64 code_difference) ≡ (a *ℤ b) -ℤ (c *ℤ d)
  difference_back = to_z-of_z difference_fits ∙ difference_is

-- the code's comparison is the definition's
pub less_is : (a b : ℤ) → lt_z a b ≡ is_less a b
unfolding is_less
less_is (pos m) (pos n) = refl
less_is (pos m) (negsuc n) = refl
less_is (negsuc m) (pos n) = refl
less_is (negsuc m) (negsuc n) = refl

-- ---- "100000 × cross(a, b) < 20271 × dot(a, b)"
module _ (k : ℕ) (z : ℤ) (few : k ≤ 100000) (h : nat_abs z ≤ 35184372088832) where
  scaled_is : pos k *ℤ to_z w64 (of_z w64 z) ≡ pos k *ℤ z
  scaled_is = ap (λ (y : ℤ). pos k *ℤ y) (read_back z 35184372088832 h (lit< tt))

  pub scaled_fits : SFits w64 (pos k *ℤ to_z w64 (of_z w64 z))
  scaled_fits =
      subst (SFits w64) (sym scaled_is) (in_range_lem (pos k *ℤ z) 3518437208883200000 (size_product (pos k) z 100000 35184372088832 few h) (lit< tt))

  pub scaled_back : to_z w64 (of_z w64 (pos k *ℤ to_z w64 (of_z w64 z))) ≡ pos k *ℤ z
  scaled_back = to_z-of_z scaled_fits ∙ scaled_is

pub follows_is : (a b : Direction) (p q : ℤ) → p ≡ cross_of a b → nat_abs p ≤ 35184372088832 → q ≡ dot_of a b → nat_abs q ≤ 35184372088832
    → (lt_z (pos 0) (to_z w64 (of_z w64 p))
    && lt_z (to_z w64 (of_z w64 (pos 100000 *ℤ to_z w64 (of_z w64 p)))) (to_z w64 (of_z w64 (pos 20271 *ℤ to_z w64 (of_z w64 q)))))
    ≡ follows a b
unfolding follows
follows_is a b p q is few is' few' =
    let first : lt_z (pos 0) (to_z w64 (of_z w64 p)) ≡ is_less (pos 0) (cross_of a b) =
    ap (lt_z (pos 0)) (read_back p 35184372088832 few (lit< tt) ∙ is) ∙ less_is (pos 0) (cross_of a b) in
    let second : lt_z (to_z w64 (of_z w64 (pos 100000 *ℤ to_z w64 (of_z w64 p)))) (to_z w64 (of_z w64 (pos 20271 *ℤ to_z w64 (of_z w64 q))))
    ≡ is_less (pos 100000 *ℤ cross_of a b) (pos 20271 *ℤ dot_of a b) =
    ap (λ (z : ℤ). lt_z z (to_z w64 (of_z w64 (pos 20271 *ℤ to_z w64 (of_z w64 q)))))
    (scaled_back 100000 p (le_refl 100000) few ∙ ap (λ (z : ℤ). pos 100000 *ℤ z) is)
    ∙ ap (lt_z (pos 100000 *ℤ cross_of a b)) (scaled_back 20271 q (lit≤ tt) few' ∙ ap (λ (z : ℤ). pos 20271 *ℤ z) is')
    ∙ less_is (pos 100000 *ℤ cross_of a b) (pos 20271 *ℤ dot_of a b) in
    ap (λ (t : Bool). t && lt_z (to_z w64 (of_z w64 (pos 100000 *ℤ to_z w64 (of_z w64 p)))) (to_z w64 (of_z w64 (pos 20271 *ℤ to_z w64 (of_z w64 q))))) first
    ∙ ap (λ (t : Bool). is_less (pos 0) (cross_of a b) && t) second
