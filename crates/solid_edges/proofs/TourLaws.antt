-- Asked again and again from 0 on, `next_neighbour` gives every neighbour of a face once, in rising order of their ids.
use mathlib.Core.Path.{◌≡◌, refl, sym, ap, ◌∙◌, subst}
use mathlib.Core.Bool.{Bool, true, false, cond}
use mathlib.Core.List.{List}
use mathlib.Core.Logic.{◌⊎◌, inl, inr}
use Prim.Native.Nat.{ℕ, zero, suc, ◌+◌, ◌-◌, ◌<◌, ◌≤◌}
use native.Mathlib.Numerals.{add-one}
use native.Mathlib.Omega.{arith}
use borrow.Author.Tests.{eq-eqb, ne_eqb}
use Rattle.num_float.proofs.Tests.{contrary, lt_or_ge}
use Rattle.list_laws.specs.Below.{count_below}
use Rattle.list_laws.proofs.Count.{count_none, count_le}
use Rattle.file_part.specs.Part.{Part, part_of}
use Rattle.file_ok.specs.Work.{Readable}
use Rattle.solid_faces.specs.Faces.{faces_of}
use Rattle.solid_edges.specs.Edges.{is_edge_of_word, other_face}
use Rattle.solid_ids.specs.Ids.{face_before}
use Rattle.solid_edges.specs.Neighbours.{is_past, is_wanted, next_neighbour, NextNeighbour}
use Rattle.solid_edges.specs.Work.{neighbour_at}
use Rattle.solid_ids.proofs.IdLaws.{face_irreflexive, face_transitive}
use Rattle.solid_edges.proofs.NextLaws.{next_is, next_none, next_edge, next_after, next_below, next_first}

-- ---- of two tests of which one holds wherever the other does, it counts no fewer numbers, and more where it alone holds
count_step : (n : ℕ) (test : ℕ → Bool) → count_below (suc n) test ≡ cond (test n) (suc (count_below n test)) (count_below n test)
unfolding count_below
count_step n test = refl

step_le : (a b : Bool) (x y : ℕ) → (a ≡ true → b ≡ true) → x ≤ y → cond a (suc x) x ≤ cond b (suc y) y
step_le true true x y h l = omega (arith, l)
step_le true false x y h l = absurd (contrary (h refl) refl)
step_le false true x y h l = omega (arith, l)
step_le false false x y h l = l

count_wider : (n : ℕ) (p q : ℕ → Bool) → ((i : ℕ) → i < n → p i ≡ true → q i ≡ true) → count_below n p ≤ count_below n q
count_wider zero p q h = omega (arith, count_none p, count_none q)
count_wider (suc n) p q h =
    omega (
      arith,
      count_step n p,
      count_step n q,
      step_le (p n) (q n) (count_below n p) (count_below n q) (h n (omega arith)) (count_wider n p q (λ i l. h i (omega (arith, l)))),
    )

count_more_of : (n : ℕ) (p q : ℕ → Bool) (x : ℕ) → ((i : ℕ) → i < n → p i ≡ true → q i ≡ true) → x < n → p x ≡ false → q x ≡ true →
    count_below n p < count_below n q
count_more_of zero p q x h l a b = absurd (omega (arith, l))
count_more_of (suc n) p q x h l a b = go (λ low. count_more_of n p q x before low a b) (lt_or_ge x n)
  where
    before : (i : ℕ) → i < n → p i ≡ true → q i ≡ true
    before i l = h i (omega (arith, l))

    go : (x < n → count_below n p < count_below n q) → (x < n) ⊎ (n ≤ x) → count_below (suc n) p < count_below (suc n) q
    go less (inl low) =
        let step : cond (p n) (suc (suc (count_below n p))) (suc (count_below n p)) ≤ cond (q n) (suc (count_below n q)) (count_below n q)
        = step_le (p n) (q n) (suc (count_below n p)) (count_below n q) (h n (omega arith)) (omega (arith, less low)) in
        omega (arith, count_step n p, count_step n q, step, shift (p n) (count_below n p))
      where
        shift : (c : Bool) (k : ℕ) → cond c (suc (suc k)) (suc k) ≡ suc (cond c (suc k) k)
        shift true k = refl
        shift false k = refl
    go less (inr high) =
        let here : x ≡ n = omega (arith, l, high) in
        let out : count_below (suc n) p ≡ count_below n p
        = count_step n p ∙ ap (λ (c : Bool). cond c (suc (count_below n p)) (count_below n p)) (ap p (sym here) ∙ a) in
        let into : count_below (suc n) q ≡ suc (count_below n q)
        = count_step n q ∙ ap (λ (c : Bool). cond c (suc (count_below n q)) (count_below n q)) (ap q (sym here) ∙ b) in
        omega (arith, out, into, count_wider n p q before)

-- how many faces come before face g
rank : Part → ℕ → ℕ
rank t g = count_below (faces_of t) (λ x. face_before t x g)

rank_rises : (t : Part) (g h : ℕ) → g < faces_of t → face_before t g h ≡ true → rank t g < rank t h
unfolding rank
rank_rises t g h l b =
    count_more_of (faces_of t) (λ x. face_before t x g) (λ x. face_before t x h) g (λ i m a. face_transitive t i g h a b) l (face_irreflexive t g) b

rank_few : (t : Part) (g : ℕ) → rank t g ≤ faces_of t
unfolding rank
rank_few t g = count_le (faces_of t) (λ x. face_before t x g)

-- ---- one answer and the next
module _ (t : Part) (f : ℕ) where
  tour_first : neighbour_at t f 0 ≡ next_neighbour t f 0
  unfolding neighbour_at
  tour_first = refl

  tour_step : (k g : ℕ) → neighbour_at t f k ≡ g + 1 → neighbour_at t f (suc k) ≡ next_neighbour t f (g + 1)
  unfolding neighbour_at
  tour_step k g e = rw (e, ne_eqb (g + 1) 0 (λ z. omega (arith, z)))

  tour_over : (k : ℕ) → neighbour_at t f k ≡ 0 → neighbour_at t f (suc k) ≡ 0
  unfolding neighbour_at
  tour_over k e = rw (eq-eqb (neighbour_at t f k) 0 e)

  -- an answer is a neighbour
  pub record Neighbour (g : ℕ) : Type 0 where
    pub edge : ℕ
    pub below : edge < t.vertices
    pub is_edge : is_edge_of_word t f edge ≡ true
    pub leads : other_face t f edge ≡ g

  neighbour_of : (after g : ℕ) → next_neighbour t f after ≡ g + 1 → Neighbour g
  neighbour_of after g e =
      let h = next_is t f after g e in
      record { edge = h.edge; below = h.below; is_edge = next_edge t f after g h; leads = h.leads }

  pub tour_neighbour : (k g : ℕ) → neighbour_at t f k ≡ g + 1 → Neighbour g
  tour_neighbour zero g e = neighbour_of 0 g (sym tour_first ∙ e)
  tour_neighbour (suc k) g e = go (neighbour_at t f k) refl
    where
      go : (i : ℕ) → neighbour_at t f k ≡ i → Neighbour g
      go zero q = absurd (omega (arith, tour_over k q, e))
      go (suc i) q = neighbour_of (i + 1) g (sym (tour_step k i (q ∙ sym (add-one i))) ∙ e)

  -- answers rise in their ids, so no face is given twice
  pub tour_rises : (j k g h : ℕ) → j < k → neighbour_at t f j ≡ g + 1 → neighbour_at t f k ≡ h + 1 → face_before t g h ≡ true
  tour_rises j zero g h l a b = absurd (omega (arith, l))
  tour_rises j (suc k) g h l a b = go (neighbour_at t f k) refl (λ i low q. tour_rises j k g i low a q) (lt_or_ge j k)
    where
      go : (i : ℕ) → neighbour_at t f k ≡ i → ((i : ℕ) → j < k → neighbour_at t f k ≡ i + 1 → face_before t g i ≡ true) → (j < k) ⊎ (k ≤ j) →
          face_before t g h ≡ true
      go zero q before side = absurd (omega (arith, tour_over k q, b))
      go (suc i) q before side =
          let at : neighbour_at t f k ≡ i + 1 = q ∙ sym (add-one i) in
          let last : face_before t i h ≡ true = next_after t f i h (next_is t f (i + 1) h (sym (tour_step k i at) ∙ b)) in
          two side at last
        where
          two : (j < k) ⊎ (k ≤ j) → neighbour_at t f k ≡ i + 1 → face_before t i h ≡ true → face_before t g h ≡ true
          two (inl low) at last = face_transitive t g i h (before i low at) last
          two (inr high) at last =
              let here : j ≡ k = omega (arith, l, high) in
              let same : g ≡ i = omega (arith, a, ap (neighbour_at t f) here, at) in
              subst (λ (x : ℕ). face_before t x h ≡ true) (sym same) last

-- ---- every neighbour is met
module _ (file : List ℕ) (readable : Readable file) (f s : ℕ) (low : s < (part_of file).vertices) (edge : is_edge_of_word (part_of file) f s ≡ true) where
  abbrev t : Part
  t = part_of file

  abbrev h : ℕ
  h = other_face t f s

  wanted_first : is_wanted t f 0 s ≡ true
  unfolding is_wanted is_past
  wanted_first = rw (edge, eq-eqb 0 0 refl)

  wanted_after : (g : ℕ) → face_before t g h ≡ true → is_wanted t f (g + 1) s ≡ true
  unfolding is_wanted is_past
  wanted_after g b =
      let back : g + 1 - 1 ≡ g = omega arith in
      rw (edge, ne_eqb (g + 1) 0 (λ z. omega (arith, z)), back, b)

  -- the next one is there; it is h, or before h
  record Found (after : ℕ) : Type 0 where
    face : ℕ
    is : next_neighbour t f after ≡ face + 1
    next : NextNeighbour t f after face
    side : (h ≡ face) ⊎ (face_before t face h ≡ true)

  found : (after : ℕ) → is_wanted t f after s ≡ true → Found after
  found after w = go (next_neighbour t f after) refl
    where
      go : (k : ℕ) → next_neighbour t f after ≡ k → Found after
      go zero e = absurd (contrary w (next_none t f after e s low))
      go (suc g) e =
          let q : next_neighbour t f after ≡ g + 1 = e ∙ sym (add-one g) in
          let n = next_is t f after g q in
          record { face = g; is = q; next = n; side = next_first file readable f after g s n low w }

  pub record Met : Type 0 where
    pub turn : ℕ
    pub given : neighbour_at t f turn ≡ h + 1

  -- turn k gives a face before h, with k faces or more before it
  record Ahead (k : ℕ) : Type 0 where
    face : ℕ
    given : neighbour_at t f k ≡ face + 1
    before : face_before t face h ≡ true
    few : face < faces_of t
    many : k ≤ rank t face

  settle : (k after : ℕ) (n : Found after) → neighbour_at t f k ≡ next_neighbour t f after → k ≤ rank t n.face → Met ⊎ Ahead k
  settle k after n e many = go n.side
    where
      go : (h ≡ n.face) ⊎ (face_before t n.face h ≡ true) → Met ⊎ Ahead k
      go (inl same) = inl (record { turn = k; given = e ∙ n.is ∙ ap (λ (i : ℕ). i + 1) (sym same) })
      go (inr before) =
          inr (record { face = n.face; given = e ∙ n.is; before = before; few = next_below file readable f after n.face n.next; many = many })

  tour : (k : ℕ) → Met ⊎ Ahead k
  tour zero = let n = found 0 wanted_first in settle 0 0 n (tour_first t f) (omega arith)
  tour (suc k) = go (tour k)
    where
      go : Met ⊎ Ahead k → Met ⊎ Ahead (suc k)
      go (inl met) = inl met
      go (inr a) =
          let n = found (a.face + 1) (wanted_after a.face a.before) in
          settle (suc k) (a.face + 1) n (tour_step t f k a.face a.given)
          (omega (arith, a.many, rank_rises t a.face n.face a.few (next_after t f a.face n.face n.next)))

  pub tour_meets : Met
  tour_meets = go (tour (faces_of t))
    where
      go : Met ⊎ Ahead (faces_of t) → Met
      go (inl met) = met
      go (inr a) = absurd (omega (arith, a.many, rank_rises t a.face h a.few a.before, rank_few t h))
