-- A list whose first cells hold one value: one cell more, all of them, and what a cell holds then.
use mathlib.Core.Path.{◌≡◌, refl, ap, ◌∙◌}
use mathlib.Core.List.{List, [], ◌∷◌, ◌++◌}
use Prim.Native.Nat.{ℕ, zero, suc, ◌+◌, ◌<◌}
use native.Mathlib.Omega.{arith}
use native.Mathlib.Numerals.{add-one}
use lib.ListN.{length, get_or, set, drop, replicate, get_or-replicate}

more : {X : Type 0} (i : ℕ) (x : X) (s : List X) → i < length s → set (replicate i x ++ drop i s) i x ≡ replicate (suc i) x ++ drop (suc i) s
more {X = X} i x [] h = absurd (omega (arith, h))
more {X = X} zero x (y ∷ ys) h = refl
more {X = X} (suc i) x (y ∷ ys) h = ap (λ (l : List X). x ∷ l) (more i x ys (omega (arith, h)))

pub fill_more : {X : Type 0} (i : ℕ) (x : X) (s : List X) → i < length s → set (replicate i x ++ drop i s) i x ≡ replicate (i + 1) x ++ drop (i + 1) s
fill_more i x s h = rw (add-one) (more i x s h)

-- a list of one value has it in every cell
pub filled_at : {X : Type 0} (l : List X) (n : ℕ) (x d : X) → l ≡ replicate n x → (i : ℕ) → i < n → get_or l i d ≡ x
filled_at {X = X} l n x d e i h = ap (λ (k : List X). get_or k i d) e ∙ get_or-replicate n i x d h
