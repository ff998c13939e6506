-- Laws of sums and counts over the numbers below n: by equal terms, term by term, from the first number on.
use mathlib.Core.Path.{◌≡◌, refl, ap₂}
use mathlib.Core.Bool.{Bool, true, false, cond}
use Prim.Native.Nat.{ℕ, zero, suc, ◌+◌, ◌<◌}
use native.Mathlib.Omega.{arith}
use Rattle.list_laws.specs.Below.{sum_below, count_below}

pub sum_same : (n : ℕ) (f g : ℕ → ℕ) → ((k : ℕ) → k < n → f k ≡ g k) → sum_below n f ≡ sum_below n g
unfolding sum_below
sum_same zero f g e = refl
sum_same (suc n) f g e = ap₂ ◌+◌ (sum_same n f g (λ k h. e k (omega (arith, h)))) (e n (omega arith))

pub sum_add : (n : ℕ) (f g : ℕ → ℕ) → sum_below n f + sum_below n g ≡ sum_below n (λ k. f k + g k)
unfolding sum_below
sum_add zero f g = refl
sum_add (suc n) f g = omega (arith, sum_add n f g)

pub sum_zero : (n : ℕ) → sum_below n (λ k. 0) ≡ 0
unfolding sum_below
sum_zero zero = refl
sum_zero (suc n) = omega (arith, sum_zero n)

pub sum_front : (n : ℕ) (f : ℕ → ℕ) → sum_below (suc n) f ≡ f 0 + sum_below n (λ k. f (suc k))
unfolding sum_below
sum_front zero f = omega arith
sum_front (suc n) f = omega (arith, sum_front n f)

-- a count is a sum of ones
pub count_sum : (n : ℕ) (test : ℕ → Bool) → count_below n test ≡ sum_below n (λ k. cond (test k) 1 0)
unfolding count_below sum_below
count_sum zero test = refl
count_sum (suc n) test = go (count_sum n test) (test n)
  where
    go : count_below n test ≡ sum_below n (λ k. cond (test k) 1 0) → (b : Bool) →
        cond b (suc (count_below n test)) (count_below n test) ≡ sum_below n (λ k. cond (test k) 1 0) + cond b 1 0
    go e true = omega (arith, e)
    go e false = omega (arith, e)

pub count_alike : (n : ℕ) (test other : ℕ → Bool) → ((k : ℕ) → k < n → test k ≡ other k) → count_below n test ≡ count_below n other
unfolding count_below
count_alike zero test other e = refl
count_alike (suc n) test other e =
    ap₂ (λ (b : Bool) (z : ℕ). cond b (suc z) z) (e n (omega arith)) (count_alike n test other (λ k h. e k (omega (arith, h))))
