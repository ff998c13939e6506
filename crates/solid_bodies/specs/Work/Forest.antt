-- A forest in a list: of each number its parent, a root being its own. What the functions of `forest` say of it. A reader may pass over it. Definitions only.
use Rattle.std.specs.Prelude.{◌≡◌, ◌⊎◌, List, ℕ, ◌≤◌, ◌<◌, length, get_or}
use Rattle.solid_bodies.specs.Body.{Chain}

-- no parent is above its child
abbrev pub Falls : List ℕ → Type 0
Falls p = (i : ℕ) → i < length p → get_or p i 0 ≤ i

-- one of i and j is the other's parent
abbrev pub Up : List ℕ → ℕ → ℕ → Type 0
Up p i j = ((i < length p) × (get_or p i 0 ≡ j)) ⊎ ((j < length p) × (get_or p j 0 ≡ i))

-- the same, with i and j tied besides
abbrev pub Tie : List ℕ → ℕ → ℕ → ℕ → ℕ → Type 0
Tie p i j a b = Up p a b ⊎ ((a ≡ i) × (b ≡ j)) ⊎ ((a ≡ j) × (b ≡ i))

-- what R relates, a chain of S joins
abbrev pub Carries : (ℕ → ℕ → Type 0) → (ℕ → ℕ → Type 0) → Type 0
Carries R S = (i j : ℕ) → R i j → Chain S i j

-- each is its own root
abbrev pub Apart : List ℕ → Type 0
Apart p = (i : ℕ) → i < length p → get_or p i 0 ≡ i

-- a walk from i has come to r in q; q joins what p joins, and has its roots
pub record Walked (p q : List ℕ) (i r : ℕ) : Type 0 where
  pub long : length q ≡ length p
  pub falls : Falls q
  pub low : r ≤ i
  pub tops : (k : ℕ) → get_or p k 0 ≡ k → get_or q k 0 ≡ k
  pub tied : Chain (Up q) i r
  pub all : Carries (Up p) (Up q)
  pub only : Carries (Up q) (Up p)

-- and r is i's root
pub record Rooted (p q : List ℕ) (i r : ℕ) : Type 0 where
  pub way : Walked p q i r
  pub top : get_or q r 0 ≡ r

-- q joins what p joins, and i with j
pub record Linked (p q : List ℕ) (i j : ℕ) : Type 0 where
  pub long : length q ≡ length p
  pub falls : Falls q
  pub tied : Chain (Up q) i j
  pub all : Carries (Up p) (Up q)
  pub only : Carries (Up q) (Tie p i j)

-- q has of each the label of its parent, no higher than itself, and joined with it
pub record Flat (p q : List ℕ) : Type 0 where
  pub long : length q ≡ length p
  pub low : Falls q
  pub like : (i : ℕ) → i < length p → get_or q i 0 ≡ get_or q (get_or p i 0) 0
  pub tied : (i : ℕ) → i < length p → Chain (Up p) i (get_or q i 0)
