-- Laws on chains.
use Prim.Native.Nat.{ℕ}
use native.Mathlib.Omega.{arith}
use mathlib.Core.Path.{◌≡◌, refl, ◌∙◌}
use Rattle.solid_bodies.specs.Body.{Chain, here, step, Lowest}
use Rattle.solid_bodies.specs.Work.Forest.{Carries}

pub one : {R : ℕ → ℕ → Type 0} {i j : ℕ} → R i j → Chain R i j
one r = step r here

pub then : {R : ℕ → ℕ → Type 0} {i j k : ℕ} → Chain R i j → Chain R j k → Chain R i k
then here q = q
then (step r p) q = step r (then p q)

pub turned : {R : ℕ → ℕ → Type 0} {i j : ℕ} → ((a b : ℕ) → R a b → R b a) → Chain R i j → Chain R j i
turned s here = here
turned s (step {i = i} {j = j} r p) = then (turned s p) (one (s i j r))

-- where each step is a chain of S, the whole is
pub bind : {R S : ℕ → ℕ → Type 0} {i j : ℕ} → Carries R S → Chain R i j → Chain S i j
bind f here = here
bind f (step {i = i} {j = j} r p) = then (f i j r) (bind f p)

-- what no step changes, no chain changes
pub constant : {R : ℕ → ℕ → Type 0} {i j : ℕ} (f : ℕ → ℕ) → ((a b : ℕ) → R a b → f a ≡ f b) → Chain R i j → f i ≡ f j
constant f e here = refl
constant f e (step {i = i} {j = j} r p) = e i j r ∙ constant f e p

-- two relations that carry each other have the same lowest
pub lowest_carried : {R S : ℕ → ℕ → Type 0} {i l : ℕ} → Carries R S → Carries S R → Lowest R i l → Lowest S i l
lowest_carried f g low = record { joined = bind f low.joined; least = λ k c. low.least k (bind g c) }

-- there is one lowest
pub lowest_only : {R : ℕ → ℕ → Type 0} {i a b : ℕ} → Lowest R i a → Lowest R i b → a ≡ b
lowest_only {R} {i} {a} {b} p q = omega (arith, p.least b q.joined, q.least a p.joined)
