-- Which sides have one key, by trying every side, for any test of two ends. Definitions only.
-- "A shared segment: a side key (the pair of end keys that `shared_segments` forms) that exactly two of all polygons' sides have.
-- A side whose two end keys agree is left out."
use Rattle.std.specs.Prelude.{◌≡◌, ◌⊎◌, Bool, true, false, not, ◌&&◌, ◌||◌, cond, ℕ, zero, suc, ◌+◌, ◌<◌, eqb, leb}
use Rattle.list_laws.specs.Below.{count_below}

-- ---- two sides; side s begins at the end s and ends at the end `to s`, and `same` tells whether two ends have one key
-- the two end keys of side s differ
unfoldable pub is_live : (ℕ → ℕ → Bool) → (ℕ → ℕ) → ℕ → Bool
is_live same to s = not (same s (to s))

-- the ends a, b have the keys of c, d, in this order
unfoldable pub both_ends : (ℕ → ℕ → Bool) → ℕ → ℕ → ℕ → ℕ → Bool
both_ends same a b c d = same a c && same b d

-- the same in either order
unfoldable pub same_pair : (ℕ → ℕ → Bool) → ℕ → ℕ → ℕ → ℕ → Bool
same_pair same a b c d = both_ends same a b c d || both_ends same a b d c

-- side u has the key of side s; a side whose end keys agree has none
unfoldable pub side_key : (ℕ → ℕ → Bool) → (ℕ → ℕ) → ℕ → ℕ → Bool
side_key same to u s = is_live same to s && same_pair same u (to u) s (to s)

-- ---- all sides; `same u s` tells whether side u has the key of side s
-- one more than the highest number below n that passes the test; 0 where none does
unfoldable pub above : (ℕ → Bool) → ℕ → ℕ
above test zero = 0
above test (suc n) = cond (test n) (suc n) (above test n)

-- side s has a key, and no side below it has that key
unfoldable pub is_first : (ℕ → ℕ → Bool) → ℕ → Bool
is_first same s = same s s && eqb (count_below s (λ u. same u s)) 0

-- For the first side of a key among n sides one more than the key's last side, or `many` where more than two sides have the key.
-- 0 for any other side.
unfoldable pub pair_among : (ℕ → ℕ → Bool) → ℕ → ℕ → ℕ → ℕ
pair_among same many n s = cond (is_first same s) (cond (leb (count_below n (λ u. same u s)) 2) (above (λ u. same u s) n) many) 0

-- Of n sides: s + 1 where s alone has its key, u + 1 where s and then u alone have it, n + 1 where s is the first of more than two.
-- 0 where s has no key or is not the first that has it.
unfoldable pub pair_of : (ℕ → ℕ → Bool) → ℕ → ℕ → ℕ
pair_of same n s = pair_among same (n + 1) n s

-- ---- the same with no counting
-- of n sides s and u have one key, no third side has it, and s comes first
pub record Shared (same : ℕ → ℕ → Bool) (n s u : ℕ) : Type 0 where
  pub order : s < u
  pub below : u < n
  pub both : same u s ≡ true
  pub only : (v : ℕ) → v < n → same v s ≡ true → (v ≡ s) ⊎ (v ≡ u)

-- of n sides s alone has its key
pub record Alone (same : ℕ → ℕ → Bool) (n s : ℕ) : Type 0 where
  pub below : s < n
  pub keyed : same s s ≡ true
  pub only : (v : ℕ) → v < n → same v s ≡ true → v ≡ s

-- of n sides s is the first of more than two that have one key
pub record Many (same : ℕ → ℕ → Bool) (n s : ℕ) : Type 0 where
  pub second : ℕ
  pub third : ℕ
  pub order : (s < second) × (second < third)
  pub below : third < n
  pub second_has : same second s ≡ true
  pub third_has : same third s ≡ true
  pub first : (v : ℕ) → v < s → same v s ≡ false
