-- An edge has two sides, of which only the first is an edge: there are at most half as many edges as sides.
use mathlib.Core.Path.{◌≡◌, refl, sym, ap, ◌∙◌}
use mathlib.Core.Bool.{Bool, true, false, not, ◌&&◌, cond}
use mathlib.Core.Logic.{◌⊎◌, inl, inr}
use Prim.Native.Nat.{ℕ, zero, suc, ◌+◌, ◌-◌, ◌*◌, ◌≤◌, ◌<◌}
use native.Mathlib.Omega.{arith}
use lib.Dec.{eqb}
use lib.ListN.{length}
use borrow.Author.Tests.{eq-eqb, ne_eqb}
use Rattle.num_float.proofs.Tests.{refuted, and_true, and_left, and_false_right}
use Rattle.list_laws.specs.Below.{count_below}
use Rattle.list_laws.proofs.Count.{count_none, count_more, count_mono}
use Rattle.list_groups.specs.Groups.{passing}
use Rattle.list_groups.proofs.Counts.{passing_count}
use Rattle.file_part.specs.Part.{Part}
use Rattle.solid_keys.specs.Pair.{Shared}
use Rattle.solid_segments.specs.Sides.{same_side}
use Rattle.solid_segments.proofs.SharedLaws.{part_sides_alike}
use Rattle.solid_edges.specs.Edges.{pair_in, is_edge_of}
use Rattle.solid_edges.proofs.EdgeLaws.{edge_between}
use Rattle.solid_ranks.proofs.RankLaws.{count_fewer_once}
use Rattle.solid_tours.specs.Work.Kept.{edge_sides, item_count}

-- ---- numbers that pass p, sent to different numbers that pass q
count_step : (n : ℕ) (test : ℕ → Bool) → count_below (suc n) test ≡ cond (test n) (suc (count_below n test)) (count_below n test)
unfolding count_below
count_step n test = refl

count_into : (m n : ℕ) (p q : ℕ → Bool) (g : ℕ → ℕ) → ((i : ℕ) → i < n → p i ≡ true → (g i < m) × (q (g i) ≡ true))
    → ((i j : ℕ) → i < j → j < n → p i ≡ true → p j ≡ true → g i ≡ g j → ⊥) → count_below n p ≤ count_below m q
count_into m zero p q g into apart = omega (arith, count_none p)
count_into m (suc n) p q g into apart = go (λ r. count_into m n p r g) (p n) refl
  where
    without : ℕ → Bool
    without x = q x && not (eqb x (g n))

    go : ((r : ℕ → Bool) → ((i : ℕ) → i < n → p i ≡ true → (g i < m) × (r (g i) ≡ true))
        → ((i j : ℕ) → i < j → j < n → p i ≡ true → p j ≡ true → g i ≡ g j → ⊥) → count_below n p ≤ count_below m r) → (b : Bool) → p n ≡ b
        → count_below (suc n) p ≤ count_below m q
    go before false e =
        let same : count_below (suc n) p ≡ count_below n p = count_step n p ∙ ap (λ (b : Bool). cond b (suc (count_below n p)) (count_below n p)) e in
        omega (arith, same, before q (λ i h. into i (omega (arith, h))) (λ i j l h. apart i j l (omega (arith, h))))
    go before true e =
        let here = into n (omega arith) e in
        let one : count_below (suc n) p ≡ suc (count_below n p) = count_step n p ∙ ap (λ (b : Bool). cond b (suc (count_below n p)) (count_below n p)) e in
        let fewer : count_below m without < count_below m q
        = count_fewer_once m without q (λ i h w. and_left (q i) (not (eqb i (g n))) w) (g n) here.0
        (and_false_right (q (g n)) (not (eqb (g n) (g n))) (ap not (eq-eqb (g n) (g n) refl))) here.1 in
        let rest : count_below n p ≤ count_below m without
        = before without
        (λ i h w.
        let there = into i (omega (arith, h)) w in
        (there.0, and_true (q (g i)) (not (eqb (g i) (g n))) there.1 (ap not (ne_eqb (g i) (g n) (apart i n h (omega arith) w e)))))
        (λ i j l h. apart i j l (omega (arith, h))) in
        omega (arith, one, fewer, rest)

count_both : (n : ℕ) (p : ℕ → Bool) → count_below n p + count_below n (λ i. not (p i)) ≡ n
count_both zero p = omega (arith, count_none p, count_none (λ i. not (p i)))
count_both (suc n) p = go (count_both n p) (p n) refl
  where
    q : ℕ → Bool
    q i = not (p i)

    go : count_below n p + count_below n q ≡ n → (b : Bool) → p n ≡ b → count_below (suc n) p + count_below (suc n) q ≡ suc n
    go before true e =
        let x : count_below (suc n) p ≡ suc (count_below n p) = count_step n p ∙ ap (λ (b : Bool). cond b (suc (count_below n p)) (count_below n p)) e in
        let y : count_below (suc n) q ≡ count_below n q = count_step n q ∙ ap (λ (b : Bool). cond (not b) (suc (count_below n q)) (count_below n q)) e in
        omega (arith, x, y, before)
    go before false e =
        let x : count_below (suc n) p ≡ count_below n p = count_step n p ∙ ap (λ (b : Bool). cond b (suc (count_below n p)) (count_below n p)) e in
        let y : count_below (suc n) q ≡ suc (count_below n q) = count_step n q ∙ ap (λ (b : Bool). cond (not b) (suc (count_below n q)) (count_below n q)) e in
        omega (arith, x, y, before)

-- ---- the second side of an edge
module _ (t : Part) where
  abbrev second : ℕ → ℕ
  second s = pair_in t s - 1

  shared : (s : ℕ) → is_edge_of t s ≡ true → Shared (same_side t) t.vertices s (second s)
  shared s e = (edge_between t s e).shared

  second_none : (s : ℕ) → is_edge_of t s ≡ true → is_edge_of t (second s) ≡ false
  second_none s e =
      refuted (is_edge_of t (second s))
      (λ w.
      let a = shared s e in
      let b = shared (second s) w in
      let third : same_side t (second (second s)) s ≡ true = (part_sides_alike t).join (second (second s)) (second s) s b.both a.both in
      go s a.order b.order (a.only (second (second s)) b.below third))
    where
      go : (s : ℕ) → s < second s → second s < second (second s) → (second (second s) ≡ s) ⊎ (second (second s) ≡ second s) → ⊥
      go s h k (inl q) = omega (arith, h, k, q)
      go s h k (inr q) = omega (arith, k, q)

  second_apart : (s u : ℕ) → s < u → is_edge_of t s ≡ true → is_edge_of t u ≡ true → second s ≡ second u → ⊥
  second_apart s u l e w q =
      let a = shared s e in
      let b = shared u w in
      let back : same_side t u (second u) ≡ true = (part_sides_alike t).flip (second u) u b.both in
      let both : same_side t (second u) s ≡ true = ap (λ (k : ℕ). same_side t k s) (sym q) ∙ a.both in
      go (a.only u (omega (arith, b.order, b.below)) ((part_sides_alike t).join u (second u) s back both)) b.order
    where
      go : (u ≡ s) ⊎ (u ≡ second s) → u < second u → ⊥
      go (inl h) k = omega (arith, h, l)
      go (inr h) k = omega (arith, h, k, q)

  twice_few : 2 * count_below t.vertices (is_edge_of t) ≤ t.vertices
  twice_few =
      let le : count_below t.vertices (is_edge_of t) ≤ count_below t.vertices (λ i. not (is_edge_of t i))
      = count_into t.vertices t.vertices (is_edge_of t) (λ i. not (is_edge_of t i)) second (λ i h e. ((shared i e).below, ap not (second_none i e)))
      (λ i j l h. second_apart i j l) in
      omega (arith, le, count_both t.vertices (is_edge_of t))

  -- there are no more items than sides
  pub items_most : item_count t ≤ t.vertices
  unfolding item_count edge_sides
  items_most = omega (arith, twice_few, passing_count (is_edge_of t) t.vertices)

  -- and room for two more at each edge
  pub items_room : (s : ℕ) → s < t.vertices → is_edge_of t s ≡ true → 2 * length (passing (is_edge_of t) s) + 2 ≤ t.vertices
  items_room s h e =
      omega (
        arith,
        twice_few,
        passing_count (is_edge_of t) s,
        count_more s (is_edge_of t) e,
        count_mono (s + 1) t.vertices (is_edge_of t) (omega (arith, h)),
      )
