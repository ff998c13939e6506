-- The cells of a list after a run of stores, one cell after another: what one record of numbers is put by.
use mathlib.Core.Path.{◌≡◌, refl, ap, ◌∙◌}
use mathlib.Core.List.{List, [], ◌∷◌}
use Prim.Native.Nat.{ℕ, zero, suc, ◌+◌, ◌≤◌, ◌<◌}
use native.Mathlib.Omega.{arith}
use lib.ListN.{length, get_or, set, length-set}
use lib.Seq.{get_or-set_same, get_or-set_other}

-- xs in the cells from i + j on. For a numeral j and values written out it computes to the stores as the code writes their places, i + 1, i + 2, ..
abbrev pub stores : {X : Type 0} → List X → ℕ → ℕ → List X → List X
stores l i j [] = l
stores l i j (x ∷ xs) = stores (set l (i + j) x) i (j + 1) xs

pub stores_length : {X : Type 0} (l : List X) (i j : ℕ) (xs : List X) → length (stores l i j xs) ≡ length l
stores_length l i j [] = refl
stores_length l i j (x ∷ xs) = stores_length (set l (i + j) x) i (j + 1) xs ∙ length-set l (i + j) x

-- a cell before the run
pub stores_below : {X : Type 0} (l : List X) (i j : ℕ) (xs : List X) (d : X) (q : ℕ) → q < i + j → get_or (stores l i j xs) q d ≡ get_or l q d
stores_below l i j [] d q h = refl
stores_below l i j (x ∷ xs) d q h =
    stores_below (set l (i + j) x) i (j + 1) xs d q (omega (arith, h)) ∙ get_or-set_other l (i + j) q x d (λ e. omega (arith, e, h))

-- a cell past it
pub stores_above : {X : Type 0} (l : List X) (i j : ℕ) (xs : List X) (d : X) (q : ℕ) → i + j + length xs ≤ q → get_or (stores l i j xs) q d ≡ get_or l q d
stores_above l i j [] d q h = refl
stores_above l i j (x ∷ xs) d q h =
    stores_above (set l (i + j) x) i (j + 1) xs d q (omega (arith, h)) ∙ get_or-set_other l (i + j) q x d (λ e. omega (arith, e, h))

-- a cell of it
pub stores_at : {X : Type 0} (l : List X) (i j : ℕ) (xs : List X) (d : X) → i + j + length xs ≤ length l → (n : ℕ) → n < length xs →
    get_or (stores l i j xs) (i + (j + n)) d ≡ get_or xs n d
stores_at l i j [] d room n h = absurd (omega (arith, h))
stores_at l i j (x ∷ xs) d room zero h =
    ap (λ (q : ℕ). get_or (stores l i j (x ∷ xs)) q d) (omega arith) ∙ stores_below (set l (i + j) x) i (j + 1) xs d (i + j) (omega arith)
    ∙ get_or-set_same l (i + j) x d (omega (arith, room))
stores_at l i j (x ∷ xs) d room (suc n) h =
    let long : length (set l (i + j) x) ≡ length l = length-set l (i + j) x in
    ap (λ (q : ℕ). get_or (stores l i j (x ∷ xs)) q d) (omega arith) ∙ stores_at (set l (i + j) x) i (j + 1) xs d (omega (arith, room, long)) n (omega (arith, h))
