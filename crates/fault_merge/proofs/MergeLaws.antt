-- Laws of the work slice: one fault more.
use mathlib.Core.Path.{◌≡◌, sym, ap, subst, ◌∙◌}
use mathlib.Core.List.{List}
use mathlib.Core.Logic.{◌⊎◌, inl, inr, ⊎_elim}
use Prim.Native.Nat.{ℕ, ◌+◌, ◌*◌, ◌≤◌, ◌<◌}
use native.Mathlib.Omega.{arith}
use native.Mathlib.Nat.{le_antisymm}
use lib.ListN.{length, get_or}
use lib.Ieee.{Float}
use Rattle.num_float.proofs.Tests.{lt_or_ge}
use Rattle.file_part.specs.Part.{Part}
use Rattle.fault_row.specs.Row.{row_at_of}
use Rattle.fault_merge.specs.Hash.{hash_of}
use Rattle.fault_merge.specs.Rows.{heading_at}
use Rattle.fault_merge.specs.Merged.{lead_in, count_in, members_in, Hashes, Merged}
use Rattle.fault_merge.specs.Work.{Opened, Added}
use Rattle.fault_merge.proofs.LeadLaws.{lead_le, lead_lead, tally, tally_more, tally_le}

module _ (t : Part) (cells : List ℕ) (numbers : List Float) where
  abbrev lowest : ℕ → ℕ
  lowest i = lead_in t cells numbers i

  -- ---- one fault more
  module _ (i hash count : ℕ) (old mid new : List ℕ) (before : Merged t cells numbers old i) (opened : Opened old i hash (lowest i) mid)
      (added : Added mid (lowest i) count new) (hash_is : hash ≡ hash_of (heading_at t cells numbers i).text) (count_is : count ≡ (row_at_of cells numbers i).count) where
    mid_below : (k c : ℕ) → k < i → c < 4 → get_or mid (4 * k + c) 0 ≡ get_or old (4 * k + c) 0
    mid_below k c h l = opened.others (4 * k + c) (inl (omega arith))

    -- the columns of hashes and lowest faults are not added to
    new_low : (k c : ℕ) → c < 2 → get_or new (4 * k + c) 0 ≡ get_or mid (4 * k + c) 0
    new_low k c l = added.others (4 * k + c) (⊎_elim (λ (h : k < lowest i). inl (omega arith)) (λ (h : lowest i ≤ k). go h (lt_or_ge (lowest i) k)) (lt_or_ge k (lowest i)))
      where
        go : lowest i ≤ k → (lowest i < k) ⊎ (k ≤ lowest i) → (4 * k + c < 4 * lowest i + 2) ⊎ (4 * lowest i + 4 ≤ 4 * k + c)
        go h (inl m) = inr (omega arith)
        go h (inr m) = inl (omega arith)

    new_other : (k c : ℕ) → c < 4 → (k ≡ lowest i → ⊥) → get_or new (4 * k + c) 0 ≡ get_or mid (4 * k + c) 0
    new_other k c l d = added.others (4 * k + c) (go (lt_or_ge k (lowest i)) (lt_or_ge (lowest i) k))
      where
        go : (k < lowest i) ⊎ (lowest i ≤ k) → (lowest i < k) ⊎ (k ≤ lowest i) → (4 * k + c < 4 * lowest i + 2) ⊎ (4 * lowest i + 4 ≤ 4 * k + c)
        go (inl h) m = inl (omega arith)
        go (inr h) (inl m) = inr (omega arith)
        go (inr h) (inr m) = absurd (d (le_antisymm m h))

    hash_at : (j : ℕ) → j < i + 1 → get_or new (4 * j) 0 ≡ hash_of (heading_at t cells numbers j).text
    unfolding Hashes
    hash_at j l = ap (λ (k : ℕ). get_or new k 0) (plain j) ∙ new_low j 0 (omega arith) ∙ ap (λ (k : ℕ). get_or mid k 0) (sym (plain j)) ∙ go (lt_or_ge j i)
      where
        plain : (j : ℕ) → 4 * j ≡ 4 * j + 0
        plain j = omega arith

        go : (j < i) ⊎ (i ≤ j) → get_or mid (4 * j) 0 ≡ hash_of (heading_at t cells numbers j).text
        go (inl h) = opened.others (4 * j) (inl (omega arith)) ∙ before.hashes j h
        go (inr h) =
            let p : i ≡ j = omega arith in
            subst (λ (k : ℕ). get_or mid (4 * k) 0 ≡ hash_of (heading_at t cells numbers k).text) p (opened.hash_is ∙ hash_is)

    lead_at : (j : ℕ) → j < i + 1 → get_or new (4 * j + 1) 0 ≡ lowest j
    lead_at j l = new_low j 1 (omega arith) ∙ go (lt_or_ge j i)
      where
        go : (j < i) ⊎ (i ≤ j) → get_or mid (4 * j + 1) 0 ≡ lowest j
        go (inl h) = mid_below j 1 h (omega arith) ∙ before.leads j h
        go (inr h) = let p : i ≡ j = omega arith in subst (λ (k : ℕ). get_or mid (4 * k + 1) 0 ≡ lowest k) p opened.lead_is

    pub merged_more : Merged t cells numbers new (i + 1)
    unfolding Hashes count_in members_in
    merged_more = record {
      hashes = hash_at;
      leads = lead_at;
      totals = λ j l e. tally_more t cells numbers (λ k. (row_at_of cells numbers k).count) i j (λ k. get_or old (4 * k + 2) 0) (λ k. get_or mid (4 * k + 2) 0) (λ k. get_or new (4 * k + 2) 0) l e
          opened.total_is (λ k h. mid_below k 2 h (omega arith)) (added.total_is ∙ ap (λ (z : ℕ). get_or mid (4 * lowest i + 2) 0 + z) count_is)
          (λ k d. new_other k 2 (omega arith) d) before.totals;
      members = λ j l e. tally_more t cells numbers (λ k. 1) i j (λ k. get_or old (4 * k + 3) 0) (λ k. get_or mid (4 * k + 3) 0) (λ k. get_or new (4 * k + 3) 0) l e
          opened.members_is (λ k h. mid_below k 3 h (omega arith)) added.members_is (λ k d. new_other k 3 (omega arith) d) before.members;
    }

  -- there is room for one more at its line
  module _ (i hash : ℕ) (old mid : List ℕ) (few : i + 1 ≤ 2048) (low : (k : ℕ) → k < i + 1 → (row_at_of cells numbers k).count < 2097152)
      (before : Merged t cells numbers old i) (opened : Opened old i hash (lowest i) mid) where
    pub total_room : get_or mid (4 * lowest i + 2) 0 + (row_at_of cells numbers i).count < 4294967296
    unfolding count_in
    total_room = go (lt_or_ge (lowest i) i)
      where
        go : (lowest i < i) ⊎ (i ≤ lowest i) → get_or mid (4 * lowest i + 2) 0 + (row_at_of cells numbers i).count < 4294967296
        go (inl h) =
            let most : tally t cells numbers (λ k. (row_at_of cells numbers k).count) i (lowest i) ≤ i * 2097152 =
            tally_le t cells numbers (λ k. (row_at_of cells numbers k).count) i (lowest i) 2097152 (λ k l. omega (arith, low k (omega (arith, l)))) in
            let is : get_or mid (4 * lowest i + 2) 0 ≡ tally t cells numbers (λ k. (row_at_of cells numbers k).count) i (lowest i) =
            opened.others (4 * lowest i + 2) (inl (omega arith)) ∙ before.totals (lowest i) h (lead_lead t cells numbers i) in
            sums _ _ _ i is most few (low i (omega arith))
          where
            sums : (a b c n : ℕ) → a ≡ b → b ≤ n * 2097152 → n + 1 ≤ 2048 → c < 2097152 → a + c < 4294967296
            sums a b c n p q r s = omega arith
        go (inr h) =
            let p : i ≡ lowest i = le_antisymm h (lead_le t cells numbers i) in
            let z : get_or mid (4 * lowest i + 2) 0 ≡ 0 = ap (λ (k : ℕ). get_or mid (4 * k + 2) 0) (sym p) ∙ opened.total_is in
            omega (arith, z, low i (omega arith))

    pub member_room : get_or mid (4 * lowest i + 3) 0 < 4096
    unfolding members_in
    member_room = go (lt_or_ge (lowest i) i)
      where
        go : (lowest i < i) ⊎ (i ≤ lowest i) → get_or mid (4 * lowest i + 3) 0 < 4096
        go (inl h) =
            let most : tally t cells numbers (λ k. 1) i (lowest i) ≤ i * 1 = tally_le t cells numbers (λ k. 1) i (lowest i) 1 (λ k l. omega arith) in
            let is : get_or mid (4 * lowest i + 3) 0 ≡ tally t cells numbers (λ k. 1) i (lowest i) =
            opened.others (4 * lowest i + 3) (inl (omega arith)) ∙ before.members (lowest i) h (lead_lead t cells numbers i) in
            omega (arith, is, most, few)
        go (inr h) =
            let p : i ≡ lowest i = le_antisymm h (lead_le t cells numbers i) in
            let z : get_or mid (4 * lowest i + 3) 0 ≡ 0 = ap (λ (k : ℕ). get_or mid (4 * k + 3) 0) (sym p) ∙ opened.members_is in
            omega (arith, z)

  pub merged_none : (work : List ℕ) → Merged t cells numbers work 0
  unfolding Hashes
  merged_none work = record {
    hashes = λ j h. absurd (omega (arith, h));
    leads = λ j h. absurd (omega (arith, h));
    totals = λ j h. absurd (omega (arith, h));
    members = λ j h. absurd (omega (arith, h));
  }

-- ---- the same in the words of the calls: lead is what was found
module _ (t : Part) (cells : List ℕ) (numbers : List Float) (i hash lead count : ℕ) (old mid : List ℕ) (lead_is : lead ≡ lead_in t cells numbers i) (before : Merged t cells numbers old i)
    (opened : Opened old i hash lead mid) where
  opened_there : Opened old i hash (lead_in t cells numbers i) mid
  opened_there = subst (λ (l : ℕ). Opened old i hash l mid) lead_is opened

  pub room_at : i + 1 ≤ 2048 → ((k : ℕ) → k < i + 1 → (row_at_of cells numbers k).count < 2097152) → 4 * i + 4 ≤ length old → count ≡ (row_at_of cells numbers i).count
      → (4 * lead + 4 ≤ length mid) × (get_or mid (4 * lead + 2) 0 + count < 4294967296) × (get_or mid (4 * lead + 3) 0 < 4096)
  room_at few low long count_is = (
    omega (arith, lead_is, lead_le t cells numbers i, opened.long, long),
    subst (λ (l : ℕ). get_or mid (4 * l + 2) 0 + count < 4294967296) (sym lead_is)
        (subst (λ (z : ℕ). get_or mid (4 * lead_in t cells numbers i + 2) 0 + z < 4294967296) (sym count_is) (total_room t cells numbers i hash old mid few low before opened_there)),
    subst (λ (l : ℕ). get_or mid (4 * l + 3) 0 < 4096) (sym lead_is) (member_room t cells numbers i hash old mid few low before opened_there),
  )

  pub joined_at : (new : List ℕ) → Added mid lead count new → hash ≡ hash_of (heading_at t cells numbers i).text → count ≡ (row_at_of cells numbers i).count → Merged t cells numbers new (i + 1)
  joined_at new added hash_is count_is =
      merged_more t cells numbers i hash count old mid new before opened_there (subst (λ (l : ℕ). Added mid l count new) lead_is added) hash_is count_is
