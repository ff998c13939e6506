-- Laws of rows: what putting one leaves, and the rows that are as they were.
use mathlib.Core.Path.{◌≡◌, refl, sym, ap, ◌∙◌, subst}
use mathlib.Core.List.{List, [], ◌∷◌}
use Prim.Native.Nat.{ℕ, ◌+◌, ◌*◌, ◌≤◌, ◌<◌}
use native.Mathlib.Omega.{arith}
use lib.ListN.{length, get_or, set}
use lib.Ieee.{Float, nan}
use Rattle.list_laws.specs.Region.{Outside}
use Rattle.list_laws.proofs.Outside.{outside_none}
use Rattle.list_laws.proofs.Stores.{stores, stores_length, stores_below, stores_above, stores_at}
use Rattle.fault_row.specs.declared.row.FaultRow.{FaultRow}
use Rattle.fault_row.specs.Row.{row, row_at_of, row_room, RowPut}

-- ---- a row by its fields
module _ (u v : FaultRow) (kind : u.kind ≡ v.kind) (severity : u.severity ≡ v.severity) (count : u.count ≡ v.count) (a : u.a ≡ v.a) (b : u.b ≡ v.b)
    (waived : u.waived ≡ v.waived) (x : u.x ≡ v.x) (y : u.y ≡ v.y) (z : u.z ≡ v.z) where
  row_path : u ≡ v
  row_path = λ i. row (kind i) (severity i) (count i) (a i) (b i) (waived i) (x i) (y i) (z i)

-- where the cells and the numbers of row k are as they were, so is the row
pub row_same : (cells cells' : List ℕ) (numbers numbers' : List Float) (k : ℕ) →
    ((j : ℕ) → 6 * k ≤ j → j < 6 * k + 6 → get_or cells' j 0 ≡ get_or cells j 0) →
    ((j : ℕ) → 3 * k ≤ j → j < 3 * k + 3 → get_or numbers' j nan ≡ get_or numbers j nan) → row_at_of cells' numbers' k ≡ row_at_of cells numbers k
unfolding row_at_of
row_same cells cells' numbers numbers' k c n =
    row_path _ _ (c (6 * k) (omega arith) (omega arith)) (c (6 * k + 1) (omega arith) (omega arith)) (c (6 * k + 2) (omega arith) (omega arith))
    (c (6 * k + 3) (omega arith) (omega arith)) (c (6 * k + 4) (omega arith) (omega arith)) (c (6 * k + 5) (omega arith) (omega arith))
    (n (3 * k) (omega arith) (omega arith)) (n (3 * k + 1) (omega arith) (omega arith)) (n (3 * k + 2) (omega arith) (omega arith))

-- a row before the cells and the numbers that changed
pub row_kept : (cells cells' : List ℕ) (numbers numbers' : List Float) (a e k : ℕ) → Outside 0 (6 * a) (6 * e) cells cells' →
    Outside nan (3 * a) (3 * e) numbers numbers' → k < a → row_at_of cells' numbers' k ≡ row_at_of cells numbers k
row_kept cells cells' numbers numbers' a e k c n low =
    row_same cells cells' numbers numbers' k (λ j from to. c.below j (omega arith)) (λ j from to. n.below j (omega arith))

-- ---- a run of values stored from number i on
module _ {X : Type 0} (d : X) (l : List X) (i : ℕ) (x : X) (xs : List X) where
  -- as the code stores it, the first at i itself
  abbrev run : List X
  run = stores (set l i x) i 1 xs

  begun : run ≡ stores l i 0 (x ∷ xs)
  begun = let same : i ≡ i + 0 = omega arith in ap (λ (q : ℕ). stores (set l q x) i 1 xs) same

  run_at : i + length (x ∷ xs) ≤ length l → (n : ℕ) → n < length (x ∷ xs) → get_or run (i + n) d ≡ get_or (x ∷ xs) n d
  run_at room n h =
      ap (λ (k : List X). get_or k (i + n) d) begun ∙ ap (λ (q : ℕ). get_or (stores l i 0 (x ∷ xs)) (i + q) d) (omega arith) ∙ stores_at l i 0 (x ∷ xs) d (omega arith) n h

  run_first : i + length (x ∷ xs) ≤ length l → get_or run i d ≡ x
  run_first room = let same : i ≡ i + 0 = omega arith in ap (λ (q : ℕ). get_or run q d) same ∙ run_at room 0 (omega arith)

  run_outside : Outside d i (i + length (x ∷ xs)) l run
  run_outside =
      subst (Outside d i (i + length (x ∷ xs)) l) (sym begun)
      (record { below = λ q h. stores_below l i 0 (x ∷ xs) d q (omega arith); above = λ q h. stores_above l i 0 (x ∷ xs) d q (omega arith); long = stores_length l i 0 (x ∷ xs) })

-- ---- a row that is put
-- the cells and the numbers of a row that is lent are there; r is the number of rows
pub cells_fit : (cells numbers k r : ℕ) → r ≡ row_room cells numbers → k < r → 6 * k + 6 ≤ cells
unfolding row_room
cells_fit cells numbers k r e h = omega arith

pub numbers_fit : (cells numbers k r : ℕ) → r ≡ row_room cells numbers → k < r → 3 * k + 3 ≤ numbers
unfolding row_room
numbers_fit cells numbers k r e h = omega arith

module _ (cells : List ℕ) (numbers : List Float) (k r : ℕ) (w : FaultRow) (rows : r ≡ row_room (length cells) (length numbers)) where
  abbrev words : List ℕ
  words = w.severity ∷ w.count ∷ w.a ∷ w.b ∷ w.waived ∷ []

  abbrev reals : List Float
  reals = w.y ∷ w.z ∷ []

  module _ (lent : k < r) where
    cell_at : (n : ℕ) → n < 6 → get_or (run 0 cells (6 * k) w.kind words) (6 * k + n) 0 ≡ get_or (w.kind ∷ words) n 0
    cell_at n h = run_at 0 cells (6 * k) w.kind words (cells_fit _ _ k r rows lent) n h

    number_at : (n : ℕ) → n < 3 → get_or (run nan numbers (3 * k) w.x reals) (3 * k + n) nan ≡ get_or (w.x ∷ reals) n nan
    number_at n h = run_at nan numbers (3 * k) w.x reals (numbers_fit _ _ k r rows lent) n h

    stands : row_at_of (run 0 cells (6 * k) w.kind words) (run nan numbers (3 * k) w.x reals) k ≡ w
    unfolding row_at_of
    stands =
        row_path _ _ (run_first 0 cells (6 * k) w.kind words (cells_fit _ _ k r rows lent)) (cell_at 1 (omega arith)) (cell_at 2 (omega arith)) (cell_at 3 (omega arith))
        (cell_at 4 (omega arith)) (cell_at 5 (omega arith)) (run_first nan numbers (3 * k) w.x reals (numbers_fit _ _ k r rows lent)) (number_at 1 (omega arith))
        (number_at 2 (omega arith))

    pub row_stored : RowPut k w cells (run 0 cells (6 * k) w.kind words) numbers (run nan numbers (3 * k) w.x reals) (k + 1)
    row_stored =
        record {
          count = refl;
          stands = λ h. stands;
          cells_kept = run_outside 0 cells (6 * k) w.kind words;
          numbers_kept = run_outside nan numbers (3 * k) w.x reals;
          cells_same = λ h. absurd (omega arith);
          numbers_same = λ h. absurd (omega arith);
        }

  -- a row that is not lent
  pub row_lost : r ≤ k → RowPut k w cells cells numbers numbers (k + 1)
  row_lost h =
      record {
        count = refl;
        stands = λ l. absurd (omega arith);
        cells_kept = outside_none 0 (6 * k) (6 * k + 6) cells;
        numbers_kept = outside_none nan (3 * k) (3 * k + 3) numbers;
        cells_same = λ h. refl;
        numbers_same = λ h. refl;
      }

-- by an equal row
pub row_put_same : {k r : ℕ} {v w : FaultRow} {cells cells' : List ℕ} {numbers numbers' : List Float} → v ≡ w → RowPut k v cells cells' numbers numbers' r →
    RowPut k w cells cells' numbers numbers' r
row_put_same {k} {r} {v} {w} {cells} {cells'} {numbers} {numbers'} e p = subst (λ (u : FaultRow). RowPut k u cells cells' numbers numbers' r) e p
