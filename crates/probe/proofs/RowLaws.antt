-- Rows of cells in a list: one by a run of stores, one after another, and their number in the cell before them.
use mathlib.Core.Path.{◌≡◌, ap, ◌∙◌, subst}
use mathlib.Core.Logic.{◌⊎◌, inl, inr}
use mathlib.Core.List.{List, ◌∷◌}
use Prim.Native.Nat.{ℕ, ◌+◌, ◌≤◌, ◌<◌}
use native.Mathlib.Nat.{le_antisymm}
use native.Mathlib.Omega.{arith}
use lib.ListN.{length, get_or, set}
use lib.Seq.{ext_get_or, get_or-set_same}
use Rattle.num_float.proofs.Tests.{lt_or_ge}
use Rattle.list_laws.specs.Region.{part, Outside}
use Rattle.list_laws.proofs.Regions.{part_length, part_place}
use Rattle.list_laws.proofs.Outside.{outside_none, outside_then, outside_wide, outside_set, outside_part, outside_after}
use Rattle.list_laws.proofs.Stores.{stores, stores_length, stores_below, stores_above, stores_at}
use Rattle.probe.specs.Work.{Row}

-- ---- one row
pub row_put : {X : Type 0} (d : X) (l : List X) (i j : ℕ) (xs : List X) → i + j + length xs ≤ length l → Row d (i + j) xs l (stores l i j xs)
row_put d l i j xs room =
    let long : length (stores l i j xs) ≡ length l = stores_length l i j xs in
    let here : length (part (i + j) (i + j + length xs) (stores l i j xs)) ≡ length xs =
    part_length (i + j) (i + j + length xs) (stores l i j xs) (omega (arith, long, room)) ∙ omega arith in
    record {
      there =
          ext_get_or d (part (i + j) (i + j + length xs) (stores l i j xs)) xs here
          (λ m h.
          let low : m < length xs = omega (arith, h, here) in
          let place : i + j + m ≡ i + (j + m) = omega arith in
          part_place (i + j) (i + j + length xs) (stores l i j xs) d m (omega (arith, low)) ∙ ap (λ (q : ℕ). get_or (stores l i j xs) q d) place ∙ stores_at l i j xs d room m low);
      kept = record { below = λ q h. stores_below l i j xs d q h; above = λ q h. stores_above l i j xs d q h; long = long };
    }

-- from number i itself on
pub row_begun : {X : Type 0} (d : X) (l : List X) (i : ℕ) (x : X) (xs : List X) → i + length (x ∷ xs) ≤ length l → Row d i (x ∷ xs) l (stores (set l i x) i 1 xs)
row_begun d l i x xs room =
    let same : i + 0 ≡ i = omega arith in
    subst (λ (q : ℕ). Row d q (x ∷ xs) l (stores (set l q x) i 1 xs)) same (row_put d l i 0 (x ∷ xs) (omega (arith, room)))

-- ---- rows of w cells, one after another: row k begins at number a k and ends before number e k
pub record Places (w : ℕ) (a e : ℕ → ℕ) : Type 0 where
  pub ends : (k : ℕ) → e k ≡ a k + w
  pub next : (k : ℕ) → a (k + 1) ≡ e k
  pub far : (k n : ℕ) → k < n → e k ≤ a n

-- n rows stand in a list; all other cells are as they were
pub record Rows {X : Type 0} (d : X) (a e : ℕ → ℕ) (row : ℕ → List X) (n : ℕ) (old new : List X) : Type 0 where
  pub each : (k : ℕ) → k < n → part (a k) (e k) new ≡ row k
  pub kept : Outside d (a 0) (a n) old new

pub rows_none : {X : Type 0} (d : X) (a e : ℕ → ℕ) (row : ℕ → List X) (l : List X) → Rows d a e row 0 l l
rows_none d a e row l = record { each = λ k h. absurd (omega (arith, h)); kept = outside_none d (a 0) (a 0) l }

pub rows_all : {X : Type 0} (d : X) (a e : ℕ → ℕ) (row : ℕ → List X) (k n : ℕ) (old new : List X) → k ≤ n → n ≤ k → Rows d a e row k old new → Rows d a e row n old new
rows_all d a e row k n old new low high h = subst (λ (j : ℕ). Rows d a e row j old new) (le_antisymm low high) h

module _ {X : Type 0} (d : X) (w : ℕ) (a e : ℕ → ℕ) (g : Places w a e) where
  module _ (row : ℕ → List X) (n : ℕ) (old new new' : List X) (wide : length (row n) ≡ w) (room : e n ≤ length new)
      (h : Rows d a e row n old new) (x : Row d (a n) (row n) new new') where
    end : a n + length (row n) ≡ e n
    end = omega (arith, wide, g.ends n)

    more_each : (k : ℕ) → k < n + 1 → (k < n) ⊎ (n ≤ k) → part (a k) (e k) new' ≡ row k
    more_each k low (inl below) =
        outside_part d (a n) (a n + length (row n)) (a k) (e k) new new' (g.far k n below) (omega (arith, g.far k n below, g.ends n, room)) x.kept ∙ h.each k below
    more_each k low (inr above) =
        let here : n ≡ k = omega (arith, low, above) in
        subst (λ (j : ℕ). part (a j) (e j) new' ≡ row j) here (subst (λ (j : ℕ). part (a n) j new' ≡ row n) end x.there)

    -- one row more
    pub rows_more : Rows d a e row (n + 1) old new'
    rows_more =
        record {
          each = λ k low. more_each k low (lt_or_ge k n);
          kept =
              outside_then d (a 0) (a (n + 1)) old new new'
              (outside_wide d (a 0) (a n) (a 0) (a (n + 1)) old new (omega arith) (omega (arith, g.ends n, g.next n)) h.kept)
              (outside_wide d (a n) (a n + length (row n)) (a 0) (a (n + 1)) new new' (first (lt_or_ge 0 n)) (omega (arith, end, g.next n)) x.kept);
        }
      where
        first : (0 < n) ⊎ (n ≤ 0) → a 0 ≤ a n
        first (inl some) = omega (arith, g.far 0 n some, g.ends 0)
        first (inr none) = let same : n ≡ 0 = omega (arith, none) in omega (arith, ap a same)

-- ---- their number in the cell before them
pub record Headed (a e : ℕ → ℕ) (row : ℕ → List ℕ) (n : ℕ) (old new : List ℕ) : Type 0 where
  pub count : get_or new 0 0 ≡ n
  pub each : (k : ℕ) → k < n → part (a k) (e k) new ≡ row k
  pub kept : Outside 0 0 (a n) old new

pub rows_headed : (w : ℕ) (a e : ℕ → ℕ) (g : Places w a e) (row : ℕ → List ℕ) (n : ℕ) (old new : List ℕ) → ((k : ℕ) → 1 ≤ a k) → a n ≤ length old →
    Rows 0 a e row n old new → Headed a e row n old (set new 0 n)
rows_headed w a e g row n old new after room h =
    let one = outside_set 0 0 1 new 0 n (omega arith) (omega arith) in
    record {
      count = get_or-set_same new 0 n 0 (omega (arith, room, after n, h.kept.long));
      each = λ k low. outside_after 0 0 1 (a k) (e k) new (set new 0 n) (after k) (omega (arith, g.far k n low, room, h.kept.long)) one ∙ h.each k low;
      kept =
          outside_then 0 0 (a n) old new (set new 0 n) (outside_wide 0 (a 0) (a n) 0 (a n) old new (omega arith) (omega arith) h.kept)
          (outside_wide 0 0 1 0 (a n) new (set new 0 n) (omega arith) (after n) one);
    }
