-- Laws of the lowest fault of a line, and of what the faults of a line add up to.
use mathlib.Core.Path.{◌≡◌, refl, sym, ap, subst, ◌∙◌}
use mathlib.Core.Bool.{Bool, true, false, cond}
use mathlib.Core.List.{List}
use mathlib.Core.Logic.{◌⊎◌, inl, inr, ⊎_elim}
use Prim.Native.Nat.{ℕ, zero, suc, ◌+◌, ◌*◌, ◌≤◌, ◌<◌}
use native.Mathlib.Omega.{arith}
use native.Mathlib.Nat.{le_antisymm, suc-mul}
use lib.ListN.{get_or}
use lib.Ieee.{Float}
use Rattle.num_float.proofs.Tests.{contrary, lt_or_ge}
use Rattle.list_laws.specs.Below.{sum_below}
use Rattle.list_laws.proofs.Below.{sum_more}
use Rattle.list_laws.proofs.Count.{lowest_le, lowest_passes, lowest_least, lowest_below_lem, lowest_is}
use Rattle.file_part.specs.Part.{Part}
use Rattle.fault_row.specs.Fault.{Heading}
use Rattle.fault_lines.specs.Line.{same_heading_of}
use Rattle.fault_lines.proofs.HeadingLaws.{heading_same, heading_on}
use Rattle.fault_merge.specs.Hash.{hash_of}
use Rattle.fault_merge.specs.Rows.{heading_at}
use Rattle.fault_merge.specs.Merged.{shares, lead_in, Hashes}
use Rattle.fault_merge.proofs.HashLaws.{other_hash}

-- one number more that fails a test
pub none_more : (test : ℕ → Bool) (j : ℕ) → ((k : ℕ) → k < j → test k ≡ false) → test j ≡ false → (k : ℕ) → k < j + 1 → test k ≡ false
none_more test j b e k h = ⊎_elim (λ (l : k < j). b k l) (λ (g : j ≤ k). let p : j ≡ k = omega arith in subst (λ (i : ℕ). test i ≡ false) p e) (lt_or_ge k j)

module _ (t : Part) (cells : List ℕ) (numbers : List Float) where
  abbrev heading : ℕ → Heading
  heading i = heading_at t cells numbers i

  abbrev share : ℕ → ℕ → Bool
  share k i = shares t cells numbers k i

  abbrev lowest : ℕ → ℕ
  lowest i = lead_in t cells numbers i

  -- ---- shares
  pub shares_heading : (k i : ℕ) → share k i ≡ true → heading k ≡ heading i
  unfolding shares
  shares_heading k i e = heading_same _ _ e

  pub heading_shares : (k i : ℕ) → heading k ≡ heading i → share k i ≡ true
  unfolding shares
  heading_shares k i e = heading_on _ _ e

  pub shares_self : (i : ℕ) → share i i ≡ true
  shares_self i = heading_shares i i refl

  shares_like : (k i j : ℕ) → heading i ≡ heading j → share k i ≡ share k j
  unfolding shares
  shares_like k i j e = ap (same_heading_of (heading k)) e

  -- ---- the lowest fault
  pub other_line : (work : List ℕ) (i j hash : ℕ) → Hashes t cells numbers work i → j < i → hash ≡ hash_of (heading i).text
      → (get_or work (4 * j) 0 ≡ hash → ⊥) → same_heading_of (heading j) (heading i) ≡ false
  unfolding Hashes
  other_line work i j hash h l e d = other_hash _ _ (λ p. d (h j l ∙ p ∙ sym e))

  pub lead_found : (i j : ℕ) → j < i → ((k : ℕ) → k < j → same_heading_of (heading k) (heading i) ≡ false)
      → same_heading_of (heading j) (heading i) ≡ true → j ≡ lowest i
  unfolding lead_in shares
  lead_found i j l b e = sym (lowest_is i (λ k. same_heading_of (heading k) (heading i)) j (omega arith) (λ _. e) b)

  pub lead_self : (i j : ℕ) → i ≤ j → ((k : ℕ) → k < j → same_heading_of (heading k) (heading i) ≡ false) → i ≡ lowest i
  unfolding lead_in shares
  lead_self i j l b =
      sym (lowest_is i (λ k. same_heading_of (heading k) (heading i)) i (omega arith) (λ h. absurd (omega (arith, h))) (λ k h. b k (omega (arith, h, l))))

  pub lead_le : (i : ℕ) → lowest i ≤ i
  unfolding lead_in
  lead_le i = lowest_le i (λ j. share j i)

  pub lead_least : (i k : ℕ) → k < lowest i → share k i ≡ false
  unfolding lead_in
  lead_least i k h = lowest_least i (λ j. share j i) k h

  pub lead_below : (i k : ℕ) → share k i ≡ true → lowest i ≤ k
  unfolding lead_in
  lead_below i k e = lowest_below_lem i (λ j. share j i) k e

  -- it shares the line
  pub lead_shares : (i : ℕ) → share (lowest i) i ≡ true
  unfolding lead_in
  lead_shares i = ⊎_elim passes self (lt_or_ge (lowest i) i)
    where
      passes : lowest i < i → share (lowest i) i ≡ true
      passes h = lowest_passes i (λ j. share j i) h

      self : i ≤ lowest i → share (lowest i) i ≡ true
      self h = let e : i ≡ lowest i = le_antisymm h (lead_le i) in subst (λ (k : ℕ). share k i ≡ true) e (shares_self i)

  -- faults with one heading have one lowest fault
  pub lead_like : (i j : ℕ) → heading i ≡ heading j → lowest i ≡ lowest j
  lead_like i j e =
      le_antisymm (lead_below i (lowest j) (shares_like (lowest j) i j e ∙ lead_shares j))
      (lead_below j (lowest i) (sym (shares_like (lowest i) i j e) ∙ lead_shares i))

  pub lead_lead : (i : ℕ) → lowest (lowest i) ≡ lowest i
  lead_lead i = lead_like (lowest i) i (shares_heading (lowest i) i (lead_shares i))

  -- a fault that begins its line is the lowest of all that share it
  pub lead_of_sharer : (i j : ℕ) → lowest i ≡ i → share j i ≡ true → lowest j ≡ i
  lead_of_sharer i j e h = lead_like j i (shares_heading j i h) ∙ e

  pub sharer_of_lead : (i j : ℕ) → lowest j ≡ i → share j i ≡ true
  sharer_of_lead i j e = heading_shares j i (sym (shares_heading (lowest j) j (lead_shares j)) ∙ ap (heading) e)

  -- ---- a column of the work slice, with one fault more: v is what each fault adds to its line
  module _ (v : ℕ → ℕ) where
    abbrev pub tally : ℕ → ℕ → ℕ
    tally n i = sum_below n (λ k. cond (share k i) (v k) 0)

    sum_zero : (n i : ℕ) → ((k : ℕ) → k < n → share k i ≡ false) → tally n i ≡ 0
    unfolding sum_below
    sum_zero zero i b = refl
    sum_zero (suc n) i b = rw (b n (omega arith)) (omega (arith, sum_zero n i (λ k h. b k (omega arith))))

    tally_on : (n i : ℕ) → share n i ≡ true → tally (n + 1) i ≡ tally n i + v n
    tally_on n i e = sum_more n (λ k. cond (share k i) (v k) 0) ∙ ap (λ (b : Bool). tally n i + cond b (v n) 0) e

    tally_off : (n i : ℕ) → share n i ≡ false → tally (n + 1) i ≡ tally n i
    tally_off n i e = sum_more n (λ k. cond (share k i) (v k) 0) ∙ ap (λ (b : Bool). tally n i + cond b (v n) 0) e ∙ omega arith

    pub tally_more : (i j : ℕ) (old mid new : ℕ → ℕ) → j < i + 1 → lowest j ≡ j → mid i ≡ 0 → ((k : ℕ) → k < i → mid k ≡ old k)
        → new (lowest i) ≡ mid (lowest i) + v i → ((k : ℕ) → (k ≡ lowest i → ⊥) → new k ≡ mid k)
        → ((k : ℕ) → k < i → lowest k ≡ k → old k ≡ tally i k) → new j ≡ tally (i + 1) j
    tally_more i j old mid new l e fresh same added others known = go (share i j) refl
      where
        grown : lowest i ≡ j → (j < i) ⊎ (i ≤ j) → mid j ≡ tally i j
        grown p (inl h) = same j h ∙ known j h e
        grown p (inr h) =
            let q : i ≡ j = omega arith in
            ap mid (sym q) ∙ fresh ∙ sym (sum_zero i j (λ k m. subst (λ (z : ℕ). share k z ≡ false) q (lead_least i k (omega (arith, p, q, m)))))

        go : (b : Bool) → share i j ≡ b → new j ≡ tally (i + 1) j
        go true s =
            let p : lowest i ≡ j = lead_of_sharer j i e s in
            ap new (sym p) ∙ added ∙ ap (λ (k : ℕ). mid k + v i) p ∙ ap (λ (k : ℕ). k + v i) (grown p (lt_or_ge j i)) ∙ sym (tally_on i j s)
        go false s =
            let d : j ≡ i → ⊥ = λ p. contrary (shares_self i) (ap (share i) (sym p) ∙ s) in
            let h : j < i = below d in
            others j (λ p. contrary (sharer_of_lead j i (sym p)) s) ∙ same j h ∙ known j h e ∙ sym (tally_off i j s)
          where
            below : (j ≡ i → ⊥) → j < i
            below d = omega arith

    pub tally_le : (n i b : ℕ) → ((k : ℕ) → k < n → v k ≤ b) → tally n i ≤ n * b
    unfolding sum_below
    tally_le zero i b h = omega arith
    tally_le (suc n) i b h = go (tally_le n i b (λ k l. h k (omega arith))) (h n (omega arith)) (share n i)
      where
        go : tally n i ≤ n * b → v n ≤ b → (s : Bool) → tally n i + cond s (v n) 0 ≤ suc n * b
        go p q true = let e : suc n * b ≡ n * b + b = suc-mul n b in omega (arith, p, q, e)
        go p q false = let e : suc n * b ≡ n * b + b = suc-mul n b in omega (arith, p, e)
