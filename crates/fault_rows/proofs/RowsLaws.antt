-- Laws of rows that are written, zeroed and taken, one after another.
use mathlib.Core.Path.{◌≡◌, refl, sym, ◌∙◌, ap}
use mathlib.Core.Bool.{Bool, cond}
use mathlib.Core.List.{List, ◌++◌, append-nil}
use mathlib.Core.Logic.{◌⊎◌, inl, inr}
use Prim.Native.Nat.{ℕ, zero, suc, ◌+◌, ◌-◌, ◌*◌, ◌≤◌, ◌<◌}
use native.Mathlib.Nat.{eq-or-lt_of_le, le_of_suc-le-suc}
use native.Mathlib.Numerals.{add-one}
use native.Mathlib.Omega.{arith}
use lib.Dec.{ltb}
use lib.ListN.{length, get_or, set, take, replicate, length-set, length-append, length-replicate, get_or-replicate, get_or-append}
use lib.Seq.{get_or-set_same, get_or-set_other, set-get_or, get_or-append-add, get_or-take, length-take-le, take-length, ext_get_or}
use lib.Ieee.{Float, nan}
use borrow.Author.Tests.{lt-ltb, le-ltb}
use Rattle.num_float.proofs.Tests.{lt_or_ge}
use borrow.Rule.Slice.PartMut.{put_mid, post_of}
use Rattle.std.proofs.lemmas.Grind.{common_steps}
use Rattle.list_laws.proofs.Outside.{outside_none, outside_then, outside_wide}
use Rattle.fault_row.specs.declared.row.FaultRow.{FaultRow}
use Rattle.fault_row.specs.Row.{row_at_of, row_room, RowPut}
use Rattle.fault_row.proofs.RowLaws.{row_kept}
use Rattle.fault_rows.specs.Rows.{zero_row_of, row_in, painted, wiped, Taken}

-- ---- a list whose first n places are written
pub painted_none : {X : Type 0} (g : ℕ → X) (l : List X) → painted g 0 l ≡ l
unfolding painted
painted_none g l = refl

pub painted_one : {X : Type 0} (g : ℕ → X) (n : ℕ) (l : List X) → set (painted g n l) n (g n) ≡ painted g (n + 1) l
unfolding painted
painted_one g n l = rw add-one

pub painted_length : {X : Type 0} (g : ℕ → X) (n : ℕ) (l : List X) → length (painted g n l) ≡ length l
unfolding painted
painted_length g zero l = refl
painted_length g (suc n) l = length-set (painted g n l) n (g n) ∙ painted_length g n l

pub painted_at : {X : Type 0} (g : ℕ → X) (n : ℕ) (l : List X) (k : ℕ) (d : X) → n ≤ length l → k < n → get_or (painted g n l) k d ≡ g k
unfolding painted
painted_at g zero l k d h low = absurd (omega (arith, low))
painted_at g (suc n) l k d h low = go (λ p. painted_at g n l k d (omega (arith, h)) p) (eq-or-lt_of_le (le_of_suc-le-suc low))
  where
    go : (k < n → get_or (painted g n l) k d ≡ g k) → (k ≡ n) ⊎ (k < n) → get_or (set (painted g n l) n (g n)) k d ≡ g k
    go below (inl e) = rw e (get_or-set_same (painted g n l) n (g n) d (omega (arith, painted_length g n l, h)))
    go below (inr p) = get_or-set_other (painted g n l) n k (g n) d (λ e. omega (arith, e, p)) ∙ below p

-- places that are written as they are
painted_own : {X : Type 0} (g : ℕ → X) (n : ℕ) (l : List X) (d : X) → ((k : ℕ) → k < n → g k ≡ get_or l k d) → painted g n l ≡ l
unfolding painted
painted_own g zero l d same = refl
painted_own g (suc n) l d same =
    ap (λ m. set m n (g n)) (painted_own g n l d (λ k low. same k (omega (arith, low)))) ∙ ap (set l n) (same n (omega arith)) ∙ set-get_or l n d

-- ---- rows of which those from number a on are zeroed
module _ (a : ℕ) (rows : List FaultRow) where
  -- row k then
  abbrev left : ℕ → FaultRow
  left k = cond (ltb k a) (row_in rows k) zero_row_of

  pub wiped_own : painted (λ (k : ℕ). cond (ltb k a) (row_in rows k) zero_row_of) a rows ≡ rows
  wiped_own = painted_own left a rows zero_row_of (λ k low. simp (lt-ltb k a low))

  pub wiped_zero : (k : ℕ) → a ≤ k → zero_row_of ≡ cond (ltb k a) (row_in rows k) zero_row_of
  wiped_zero k high = simp (le-ltb k a high)

  pub wiped_whole : a ≤ length rows → painted (λ (k : ℕ). cond (ltb k a) (row_in rows k) zero_row_of) (length rows) rows ≡ wiped a rows
  unfolding wiped
  wiped_whole low =
      ext_get_or zero_row_of (painted left (length rows) rows) whole (long ∙ sym whole_long)
      (λ k h. painted_at left (length rows) rows k zero_row_of (omega arith) (omega (arith, h, long)) ∙ go k (omega (arith, h, long)) (lt_or_ge k a))
    where
      whole : List FaultRow
      whole = take a rows ++ replicate (length rows - a) zero_row_of

      long : length (painted left (length rows) rows) ≡ length rows
      long = painted_length left (length rows) rows

      first_long : length (take a rows) ≡ a
      first_long = length-take-le a rows low

      rest_long : length (replicate (length rows - a) zero_row_of) ≡ length rows - a
      rest_long = length-replicate (length rows - a) zero_row_of

      whole_long : length whole ≡ length rows
      whole_long = length-append (take a rows) (replicate (length rows - a) zero_row_of) ∙ omega (arith, first_long, rest_long, low)

      go : (k : ℕ) → k < length rows → (k < a) ⊎ (a ≤ k) → left k ≡ get_or whole k zero_row_of
      go k h (inl below) =
          ap (λ (b : Bool). cond b (row_in rows k) zero_row_of) (lt-ltb k a below) ∙ sym (get_or-take a rows k zero_row_of below)
          ∙ sym (get_or-append (take a rows) (replicate (length rows - a) zero_row_of) zero_row_of k (omega (arith, below, first_long)))
      go k h (inr above) =
          let at : length (take a rows) + (k - a) ≡ k = omega (arith, above, first_long) in
          ap (λ (b : Bool). cond b (row_in rows k) zero_row_of) (le-ltb k a above)
          ∙ sym (get_or-replicate (length rows - a) (k - a) zero_row_of zero_row_of (omega (arith, h, above)))
          ∙ sym (get_or-append-add (take a rows) (replicate (length rows - a) zero_row_of) (k - a) zero_row_of) ∙ ap (λ (j : ℕ). get_or whole j zero_row_of) at

pub wiped_filled : (a : ℕ) (rows filled : List FaultRow) → a ≤ length rows → filled ≡ replicate (length rows - a) zero_row_of →
    put_mid a (length rows - a) rows filled ≡ wiped a rows
unfolding wiped
wiped_filled a rows filled low e =
    ap (λ (l : List FaultRow). take a rows ++ (l ++ post_of a (length rows - a) rows)) e ∙ ap (λ (l : List FaultRow). take a rows ++ l) (grind (arith, common_steps))

pub wiped_none : (rows : List FaultRow) → wiped (length rows) rows ≡ rows
unfolding wiped
wiped_none rows =
    let over : length rows - length rows ≡ 0 = omega arith in
    ap (λ (l : List FaultRow). l ++ replicate (length rows - length rows) zero_row_of) (take-length rows)
    ∙ ap (λ (k : ℕ). rows ++ replicate k zero_row_of) over ∙ append-nil rows

pub wiped_all : (rows : List FaultRow) → wiped 0 rows ≡ replicate (length rows) zero_row_of
unfolding wiped
wiped_all rows = let all : length rows - 0 ≡ length rows = omega arith in ap (λ (k : ℕ). replicate k zero_row_of) all

-- ---- rows taken, one after another
pub taken_none : (rows : List FaultRow) (cells : List ℕ) (numbers : List Float) → Taken rows 0 cells cells numbers numbers
taken_none rows cells numbers =
    record { each = λ k low. absurd (omega (arith, low)); cells_kept = outside_none 0 0 (6 * 0) cells; numbers_kept = outside_none nan 0 (3 * 0) numbers }

pub taken_one : (rows : List FaultRow) (i r : ℕ) (cells cells1 cells2 : List ℕ) (numbers numbers1 numbers2 : List Float) → Taken rows i cells cells1 numbers numbers1 →
    i < row_room (length cells) (length numbers) → RowPut i (row_in rows i) cells1 cells2 numbers1 numbers2 r → Taken rows (i + 1) cells cells2 numbers numbers2
taken_one rows i r cells cells1 cells2 numbers numbers1 numbers2 t room put =
    record {
      each = λ k low. go k (eq-or-lt_of_le (omega (arith, low)));
      cells_kept =
          outside_then 0 0 (6 * (i + 1)) cells cells1 cells2 (outside_wide 0 0 (6 * i) 0 (6 * (i + 1)) cells cells1 (omega arith) (omega arith) t.cells_kept)
          (outside_wide 0 (6 * i) (6 * i + 6) 0 (6 * (i + 1)) cells1 cells2 (omega arith) (omega arith) put.cells_kept);
      numbers_kept =
          outside_then nan 0 (3 * (i + 1)) numbers numbers1 numbers2
          (outside_wide nan 0 (3 * i) 0 (3 * (i + 1)) numbers numbers1 (omega arith) (omega arith) t.numbers_kept)
          (outside_wide nan (3 * i) (3 * i + 3) 0 (3 * (i + 1)) numbers1 numbers2 (omega arith) (omega arith) put.numbers_kept);
    }
  where
    lent : i < row_room (length cells1) (length numbers1)
    lent = rw (t.cells_kept.long, t.numbers_kept.long) room

    go : (k : ℕ) → (k ≡ i) ⊎ (k < i) → row_at_of cells2 numbers2 k ≡ row_in rows k
    go k (inl e) = rw e (put.stands lent)
    go k (inr low) =
        row_kept cells1 cells2 numbers1 numbers2 i (i + 1) k (outside_wide 0 (6 * i) (6 * i + 6) (6 * i) (6 * (i + 1)) cells1 cells2 (omega arith) (omega arith) put.cells_kept)
        (outside_wide nan (3 * i) (3 * i + 3) (3 * i) (3 * (i + 1)) numbers1 numbers2 (omega arith) (omega arith) put.numbers_kept) low
        ∙ t.each k low
