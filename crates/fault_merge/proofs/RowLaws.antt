-- Laws of the faults that rows hold: by their numbers, as rules put them, and their lines.
use mathlib.Core.Path.{◌≡◌, refl, sym, ap, ap₂, subst, ◌∙◌}
use mathlib.Core.Bool.{Bool, cond}
use mathlib.Core.List.{List, [], ◌∷◌, ◌++◌}
use mathlib.Core.Logic.{◌⊎◌, inl, inr}
use Prim.Native.Nat.{ℕ, zero, suc, ◌≤◌, ◌<◌}
use native.Mathlib.Omega.{arith}
use native.Mathlib.Nat.{zero-add}
use lib.ListN.{length, get_or, length-append}
use lib.Seq.{ext_get_or}
use lib.Ieee.{Float}
use Rattle.num_float.proofs.Tests.{lt_or_ge}
use Rattle.list_laws.specs.Below.{sum_below}
use Rattle.file_part.specs.Part.{Part, part_of}
use Rattle.solid_faces.specs.Faces.{Checked}
use Rattle.fault_row.specs.declared.row.FaultRow.{FaultRow}
use Rattle.fault_row.specs.declared.flaw.Flaw.{Flaw}
use Rattle.fault_row.specs.Fault.{Heading, Fault, none}
use Rattle.fault_row.specs.Row.{row_at_of, row_room}
use Rattle.fault_row.specs.Flaw.{row_of, flaw_of}
use Rattle.fault_row.specs.Flaws as flaw
use Rattle.fault_row.specs.Flaws.{FlawsPut}
use Rattle.fault_row.proofs.FlawLaws.{flaw_of_row}
use Rattle.fault_lines.specs.Line.{at, same_heading_of, alike, first, total}
use Rattle.fault_lines.proofs.SumLaws.{sum_same}
use Rattle.fault_lines.proofs.AlikeLaws.{at_before, at_last, first_is, total_sum, length_sum}
use Rattle.fault_text.specs.Told.{told_all, fault_of}
use Rattle.fault_text.specs.Good.{Good}
use Rattle.fault_text.proofs.ToldLaws.{row_told, good_count, told_length, told_at}
use Rattle.fault_merge.specs.Rows.{heading_at, Rows}
use Rattle.fault_merge.specs.Work.{faults_to}
use Rattle.fault_merge.specs.Merged.{shares, lead_in, count_in, members_in}
use Rattle.fault_merge.proofs.TextLaws.{row_count}
use Rattle.fault_merge.proofs.LeadLaws.{lead_le, lead_shares, lead_least}

module _ (t : Part) (cells : List ℕ) (numbers : List Float) where
  abbrev faults : ℕ → List Fault
  faults n = faults_to t cells numbers n

  abbrev fault : ℕ → Fault
  fault k = fault_of t (row_at_of cells numbers k)

  abbrev heading : ℕ → Heading
  heading k = heading_at t cells numbers k

  -- ---- row k is fault k
  pub rows_length : (n : ℕ) → length (faults_to t cells numbers n) ≡ n
  unfolding faults_to
  rows_length zero = refl
  rows_length (suc n) = omega (arith, length-append (faults n) (fault n ∷ []), rows_length n)

  pub rows_at : (n k : ℕ) → k < n → at (faults_to t cells numbers n) k ≡ fault_of t (row_at_of cells numbers k)
  unfolding faults_to
  rows_at zero k h = absurd (omega (arith, h))
  rows_at (suc n) k h = go (rows_at n k) (lt_or_ge k n)
    where
      go : (k < n → at (faults n) k ≡ fault k) → (k < n) ⊎ (n ≤ k) → at (faults n ++ (fault n ∷ [])) k ≡ fault k
      go before (inl low) = at_before (faults n) (fault n ∷ []) k (omega (arith, low, rows_length n)) ∙ before low
      go before (inr high) =
          let last : length (faults n) ≡ k = omega (arith, h, high, rows_length n) in
          let same : n ≡ k = omega (arith, h, high) in
          ap (at (faults n ++ (fault n ∷ []))) (sym last) ∙ at_last (faults n) (fault n) ∙ ap fault same

  pub rows_heading : (n k : ℕ) → k < n → (at (faults_to t cells numbers n) k).heading ≡ heading_at t cells numbers k
  unfolding heading_at fault_of
  rows_heading n k h = ap (λ (f : Fault). f.heading) (rows_at n k h)

  -- ---- their lines
  same_at : (n k : ℕ) (h : Heading) → k < n → same_heading_of (at (faults n) k).heading h ≡ same_heading_of (heading k) h
  same_at n k h l = ap (λ (x : Heading). same_heading_of x h) (rows_heading n k l)

  -- the lowest fault on the line of fault i is the first with its heading
  pub lead_first : (n i : ℕ) → i < n → lead_in t cells numbers i ≡ first (faults_to t cells numbers n) (heading_at t cells numbers i)
  unfolding shares
  lead_first n i h =
      sym (first_is (faults n) (heading i) (lead_in t cells numbers i) (omega (arith, h, low, rows_length n))
      (λ _. same_at n _ (heading i) (omega (arith, h, low)) ∙ lead_shares t cells numbers i)
      (λ k l. same_at n k (heading i) (omega (arith, h, low, l)) ∙ lead_least t cells numbers i k l))
    where
      low : lead_in t cells numbers i ≤ i
      low = lead_le t cells numbers i

  -- the count of its line
  pub count_total : (n i : ℕ) → ((k : ℕ) → k < n → row_at_of cells numbers k ≡ row_of (flaw_of (row_at_of cells numbers k))) → count_in t cells numbers n i ≡ total (alike (faults_to t cells numbers n) (heading_at t cells numbers i))
  unfolding count_in shares fault_of
  count_total n i kept =
      sym (total_sum (faults n) (heading i) ∙ ap (λ (k : ℕ). sum_below k (λ j. cond (same_heading_of (at (faults n) j).heading (heading i)) (at (faults n) j).count 0)) (rows_length n)
      ∙ sum_same n _ _ (λ k l. ap₂ (λ (b : Bool) (c : ℕ). cond b c 0) (same_at n k (heading i) l) (ap (λ (f : Fault). f.count) (rows_at n k l) ∙ sym (row_count t (flaw_of (row_at_of cells numbers k))) ∙ ap (λ (w : FaultRow). w.count) (sym (kept k l)))))

  -- how many faults that has
  pub members_length : (n i : ℕ) → members_in t cells numbers n i ≡ length (alike (faults_to t cells numbers n) (heading_at t cells numbers i))
  unfolding members_in shares
  members_length n i =
      sym (length_sum (faults n) (heading i) ∙ ap (λ (k : ℕ). sum_below k (λ j. cond (same_heading_of (at (faults n) j).heading (heading i)) 1 0)) (rows_length n)
      ∙ sum_same n _ _ (λ k l. ap (λ (b : Bool). cond b 1 0) (same_at n k (heading i) l)))

-- ---- rows that rules put
module _ (t : Part) (flaws : List Flaw) (cells cells' : List ℕ) (numbers numbers' : List Float) (r : ℕ)
    (put : FlawsPut (Good t) 0 flaws cells cells' numbers numbers' r) (room : r ≤ row_room (length cells) (length numbers)) where
  is : (k : ℕ) → k < r → row_at_of cells' numbers' k ≡ row_of (get_or flaws k flaw.none)
  is k h = ap (row_at_of cells' numbers') (sym (zero-add k)) ∙ put.each k (omega (arith, h, put.count)) (omega (arith, h, room))

  -- where all rows are lent, they hold the faults of the flaws that were put
  pub rows_put : faults_to t cells' numbers' r ≡ told_all t flaws
  unfolding at
  rows_put =
      ext_get_or none (faults_to t cells' numbers' r) (told_all t flaws) (omega (arith, rows_length t cells' numbers' r, told_length t flaws, put.count))
      (λ k h. let low : k < r = omega (arith, h, rows_length t cells' numbers' r) in
      rows_at t cells' numbers' r k low ∙ ap (fault_of t) (is k low) ∙ row_told t (get_or flaws k flaw.none) ∙ told_at t flaws k (omega (arith, low, put.count)))

-- and are good
pub rows_good : (s : List ℕ) (flaws : List Flaw) (cells cells' : List ℕ) (numbers numbers' : List Float) (r : ℕ) → Checked s →
    FlawsPut (Good (part_of s)) 0 flaws cells cells' numbers numbers' r → r ≤ row_room (length cells) (length numbers) → Rows s cells' numbers' r
unfolding row_room
rows_good s flaws cells cells' numbers numbers' r checked put room =
    record {
      checked = checked;
      few = omega (arith, room);
      cells_long = omega (arith, room, put.cells_kept.long);
      numbers_long = omega (arith, room, put.numbers_kept.long);
      kept = λ k h. there k h ∙ ap row_of (sym (flaw_at k h));
      good = λ k h. subst (Good (part_of s)) (sym (flaw_at k h)) (put.sound k (omega (arith, h, put.count)));
    }
  where
    there : (k : ℕ) → k < r → row_at_of cells' numbers' k ≡ row_of (get_or flaws k flaw.none)
    there k h = is (part_of s) flaws cells cells' numbers numbers' r put room k h

    flaw_at : (k : ℕ) → k < r → flaw_of (row_at_of cells' numbers' k) ≡ get_or flaws k flaw.none
    flaw_at k h = ap flaw_of (there k h) ∙ flaw_of_row (get_or flaws k flaw.none)

-- fewer rows are rows
pub rows_less : (s cells : List ℕ) (numbers : List Float) (n m : ℕ) → m ≤ n → Rows s cells numbers n → Rows s cells numbers m
rows_less s cells numbers n m h rows =
    record {
      checked = rows.checked;
      few = omega (arith, h, rows.few);
      cells_long = omega (arith, h, rows.cells_long);
      numbers_long = omega (arith, h, rows.numbers_long);
      kept = λ k l. rows.kept k (omega (arith, h, l));
      good = λ k l. rows.good k (omega (arith, h, l));
    }

-- the counts of rows are low enough to be added up
pub rows_count : (s cells : List ℕ) (numbers : List Float) (n : ℕ) → Rows s cells numbers n → (k : ℕ) → k < n → (row_at_of cells numbers k).count < 2097152
rows_count s cells numbers n rows k h =
    subst (λ (w : FaultRow). w.count < 2097152) (sym (rows.kept k h)) (good_count (part_of s) (flaw_of (row_at_of cells numbers k)) (rows.good k h))
