-- Whole numbers as differences of natural ones, through sums, products and sizes; and the exact value of a float as such a difference.
use mathlib.Core.Path.{◌≡◌, refl, sym, ap, ◌∙◌, subst}
use mathlib.Core.Bool.{Bool, true, false, not, cond}
use Prim.Native.Nat.{ℕ, zero, suc, ◌+◌, ◌-◌, ◌*◌, ◌^◌, ◌≤◌, ◌<◌}
use native.Mathlib.Nat.{add-mul, mul-add}
use native.Mathlib.Omega.{arith}
use lib.Dec.{T, ltb, ltb→lt, nltb→le}
use lib.IntN.{ℤ, pos, negsuc, neg_ℤ, nat_abs, sub_ℕ, ◌+ℤ◌, ◌-ℤ◌, ◌*ℤ◌}
use lib.Ieee.{Float, nan, inf, fin, down}
use lib.Ieee.Exact.{HasValue}
use Rattle.num_float.specs.Units.{units, minus_sign}
use Rattle.num_float.specs.Work.{above, below, gap}
use Rattle.num_float.proofs.Units.{units_are}
use Rattle.num_error.specs.Exact.{scale, exact, Number}
use Rattle.num_error.specs.Work.{Is}

-- ---- another difference of the same value
pub is_same : (z : ℤ) (a b p m : ℕ) → p + b ≡ m + a → Is z a b → Is z p m
is_same (pos n) a b p m e h = omega (arith, e, h)
is_same (negsuc n) a b p m e h = omega (arith, e, h)

pub is_size : (z : ℤ) (p m : ℕ) → Is z p m → nat_abs z ≡ gap p m
is_size (pos n) p m h = omega (arith, h)
is_size (negsuc n) p m h = omega (arith, h)

-- ---- -z
pub is_neg : (z : ℤ) (p m : ℕ) → Is z p m → Is (neg_ℤ z) m p
is_neg (pos zero) p m h = omega (arith, h)
is_neg (pos (suc n)) p m h = h
is_neg (negsuc n) p m h = h

-- ---- the sum, and the difference
sub_is : (a b : ℕ) → Is (sub_ℕ a b) a b
sub_is a b = go (ltb a b) (ltb→lt a b) (nltb→le a b)
  where
    go : (v : Bool) → (T v → a < b) → (T (not v) → b ≤ a) → Is (cond v (negsuc (b - suc a)) (pos (a - b))) a b
    go true l g = let h = l tt in omega (arith, h)
    go false l g = let h = g tt in omega (arith, h)

pub is_add : (z w : ℤ) (p m q n : ℕ) → Is z p m → Is w q n → Is (z +ℤ w) (p + q) (m + n)
is_add (pos a) (pos b) p m q n h k = omega (arith, h, k)
is_add (pos a) (negsuc b) p m q n h k = is_same (sub_ℕ a (suc b)) a (suc b) (p + q) (m + n) (omega (arith, h, k)) (sub_is a (suc b))
is_add (negsuc a) (pos b) p m q n h k = is_same (sub_ℕ b (suc a)) b (suc a) (p + q) (m + n) (omega (arith, h, k)) (sub_is b (suc a))
is_add (negsuc a) (negsuc b) p m q n h k = omega (arith, h, k)

pub is_sub : (z w : ℤ) (p m q n : ℕ) → Is z p m → Is w q n → Is (z -ℤ w) (p + n) (m + q)
is_sub z w p m q n h k = is_add z (neg_ℤ w) p m n q h (is_neg w q n k)

-- ---- the product
expand : (m a n b : ℕ) → (m + a) * (n + b) + m * n ≡ (m + a) * n + m * (n + b) + a * b
expand m a n b =
    let e1 : (m + a) * (n + b) ≡ m * (n + b) + a * (n + b) = add-mul m a (n + b) in
    let e2 : a * (n + b) ≡ a * n + a * b = mul-add a n b in
    let e3 : (m + a) * n ≡ m * n + a * n = add-mul m a n in
    omega (arith, e1, e2, e3)

both_above : (a b p m q n : ℕ) → p ≡ m + a → q ≡ n + b → p * q + m * n ≡ p * n + m * q + a * b
both_above a b p m q n h k =
    subst (λ (i : ℕ). i * q + m * n ≡ i * n + m * q + a * b) (sym h)
    (subst (λ (i : ℕ). (m + a) * i + m * n ≡ (m + a) * n + m * i + a * b) (sym k) (expand m a n b))

pub is_mul : (z w : ℤ) (p m q n : ℕ) → Is z p m → Is w q n → Is (z *ℤ w) (p * q + m * n) (p * n + m * q)
is_mul (pos a) (pos b) p m q n h k = both_above a b p m q n h k
is_mul (pos a) (negsuc b) p m q n h k = is_neg (pos (a * suc b)) (p * n + m * q) (p * q + m * n) (both_above a (suc b) p m n q h k)
is_mul (negsuc a) (pos b) p m q n h k =
    is_same (neg_ℤ (pos (suc a * b))) (m * n + p * q) (m * q + p * n) (p * q + m * n) (p * n + m * q) (turn (p * q) (m * n) (p * n) (m * q))
    (is_neg (pos (suc a * b)) (m * q + p * n) (m * n + p * q) (both_above (suc a) b m p q n h k))
  where
    turn : (i j k l : ℕ) → i + j + (l + k) ≡ k + l + (j + i)
    turn i j k l = omega arith
is_mul (negsuc a) (negsuc b) p m q n h k =
    is_same (pos (suc a * suc b)) (m * n + p * q) (m * q + p * n) (p * q + m * n) (p * n + m * q) (turn (p * q) (m * n) (p * n) (m * q))
    (both_above (suc a) (suc b) m p n q h k)
  where
    turn : (i j k l : ℕ) → i + j + (l + k) ≡ k + l + (j + i)
    turn i j k l = omega arith

-- times a natural number
pub is_scaled : (z : ℤ) (l p m : ℕ) → Is z p m → Is (z *ℤ pos l) (p * l) (m * l)
is_scaled z l p m h = is_same (z *ℤ pos l) (p * l + m * 0) (p * 0 + m * l) (p * l) (m * l) (omega arith) (is_mul z (pos l) p m l 0 h (omega arith))

-- ---- the exact value of a float
pub exact_is : (x : Float) → Is (exact x) (above x) (below x)
unfolding exact
exact_is x = go (minus_sign x) (units x)
  where
    go : (s : Bool) (u : ℕ) → Is (cond s (neg_ℤ (pos u)) (pos u)) (cond s 0 u) (cond s u 0)
    go true u = is_neg (pos u) u 0 (omega arith)
    go false u = omega arith

-- its size is the float's units
pub exact_size : (x : Float) → nat_abs (exact x) ≡ units x
unfolding exact
exact_size x = go (minus_sign x) (units x)
  where
    go : (s : Bool) (u : ℕ) → nat_abs (cond s (neg_ℤ (pos u)) (pos u)) ≡ u
    go true zero = refl
    go true (suc u) = refl
    go false u = refl

-- it is the value, times 2^1074
pub exact_value : (x : Float) → Number x → HasValue x (minus_sign x) (nat_abs (exact x)) scale
exact_value nan n = absurd n.is_finite
exact_value (inf s) n = absurd n.is_finite
exact_value (fin s m e) n = (refl, units_are (fin s m e) n.fit ∙ ap (λ (k : ℕ). k * down e) (sym (exact_size (fin s m e))))
