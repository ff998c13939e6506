-- Tests and sums over the numbers 0, 1, .. below n. Definitions only.
use Rattle.std.specs.Prelude.{Bool, true, ◌&&◌, cond, eqb, ℕ, zero, suc, ◌+◌}

-- the test holds of each number below n
unfoldable pub all_below : ℕ → (ℕ → Bool) → Bool
all_below zero test = true
all_below (suc n) test = all_below n test && test n

-- the terms of the numbers below n, added
unfoldable pub sum_below : ℕ → (ℕ → ℕ) → ℕ
sum_below zero term = 0
sum_below (suc n) term = sum_below n term + term n

-- how many of the numbers below n pass the test
unfoldable pub count_below : ℕ → (ℕ → Bool) → ℕ
count_below zero test = 0
count_below (suc n) test = cond (test n) (suc (count_below n test)) (count_below n test)

-- the lowest number below n that passes the test; n where none does
unfoldable pub lowest_below : ℕ → (ℕ → Bool) → ℕ
lowest_below zero test = 0
lowest_below (suc n) test = cond (eqb (lowest_below n test) n) (cond (test n) n (suc n)) (lowest_below n test)
