-- The list of a face's neighbours is what `neighbour_at` gives from 0 on, up to the first 0.
use mathlib.Core.Path.{◌≡◌, refl, sym, ap, ◌∙◌, subst}
use mathlib.Core.Bool.{true, false}
use mathlib.Core.Logic.{◌⊎◌, inl, inr}
use mathlib.Core.List.Memᴰ
use mathlib.Core.List.{List, [], ◌∷◌, Memᴰ}
use Prim.Native.Nat.{ℕ, zero, suc, ◌+◌, ◌-◌, ◌<◌}
use native.Mathlib.Numerals.{add-one}
use native.Mathlib.Omega.{arith}
use lib.ListN.{length, get_or}
use borrow.Author.Tests.{eq-eqb, ne_eqb, lt-ltb}
use Rattle.num_float.proofs.Tests.{contrary, refuted, and_true, and_left, and_right}
use Rattle.list_groups.specs.Groups.{joined, unless_empty}
use Rattle.list_groups.proofs.Strict.{Strict, strict_append}
use Rattle.list_groups.proofs.Flat.{joined_none, joined_suc, joined_mem, mem_joined}
use Rattle.file_part.specs.Part.{Part, part_of}
use Rattle.file_part.proofs.PartLaws.{part_vertices}
use Rattle.file_ok.specs.Work.{Readable}
use Rattle.solid_faces.specs.Faces.{faces_of}
use Rattle.solid_ids.specs.Ids.{face_before}
use Rattle.solid_ids.proofs.IdLaws.{face_irreflexive, face_transitive}
use Rattle.solid_edges.specs.Edges.{is_edge_of_word, other_face}
use Rattle.solid_edges.specs.Neighbours.{is_past, is_wanted, next_neighbour}
use Rattle.solid_edges.specs.Work.{neighbour_at}
use Rattle.solid_edges.proofs.EdgeLaws.{other_below}
use Rattle.solid_edges.proofs.NextLaws.{none_next, is_next}
use Rattle.solid_ranks.specs.Ranks.{rank_of, face_of_rank}
use Rattle.solid_ranks.proofs.RankLaws.{rank_below, rank_of_face, face_of_rank_lem, before_rank}
use Rattle.solid_tours.specs.Tours.{edges_between, over_neighbours, neighbours_of}
use Rattle.solid_tours.proofs.EdgeLaws.{between_edge, edge_between, between_of, between_leads, leads_between}

-- ---- past none, or past face a
past_zero : (t : Part) (g : ℕ) → is_past t 0 g ≡ true
unfolding is_past
past_zero t g = rw (eq-eqb 0 0 refl)

past_suc : (t : Part) (a g : ℕ) → is_past t (a + 1) g ≡ face_before t a g
unfolding is_past
past_suc t a g =
    let back : a + 1 - 1 ≡ a = omega arith in
    rw (ne_eqb (a + 1) 0 (λ e. omega (arith, e)), back)

past_then : (t : Part) (after g x : ℕ) → is_past t after g ≡ true → face_before t g x ≡ true → is_past t after x ≡ true
past_then t zero g x p b = past_zero t x
past_then t (suc a) g x p b =
    subst (λ (k : ℕ). is_past t k x ≡ true) (add-one a)
    (past_suc t a x ∙ face_transitive t a g x (sym (past_suc t a g) ∙ subst (λ (k : ℕ). is_past t k g ≡ true) (sym (add-one a)) p) b)

wanted_is : (t : Part) (f after s : ℕ) → is_edge_of_word t f s ≡ true → is_past t after (other_face t f s) ≡ true → is_wanted t f after s ≡ true
unfolding is_wanted
wanted_is t f after s e p = and_true (is_edge_of_word t f s) (is_past t after (other_face t f s)) e p

wanted_edge : (t : Part) (f after s : ℕ) → is_wanted t f after s ≡ true → is_edge_of_word t f s ≡ true
unfolding is_wanted
wanted_edge t f after s w = and_left (is_edge_of_word t f s) (is_past t after (other_face t f s)) w

wanted_past : (t : Part) (f after s : ℕ) → is_wanted t f after s ≡ true → is_past t after (other_face t f s) ≡ true
unfolding is_wanted
wanted_past t f after s w = and_right (is_edge_of_word t f s) (is_past t after (other_face t f s)) w

-- ---- answers one after the other
tour_first : (t : Part) (f : ℕ) → neighbour_at t f 0 ≡ next_neighbour t f 0
unfolding neighbour_at
tour_first t f = refl

tour_step : (t : Part) (f k g : ℕ) → neighbour_at t f k ≡ g + 1 → neighbour_at t f (suc k) ≡ next_neighbour t f (g + 1)
unfolding neighbour_at
tour_step t f k g e = rw (e, ne_eqb (g + 1) 0 (λ z. omega (arith, z)))

-- ---- a face, where some edge leads to it
unless_mem : (l : List ℕ) (x : ℕ) {g : ℕ} → Memᴰ g (unless_empty l (x ∷ [])) → (g ≡ x) × ((s : ℕ) × Memᴰ s l)
unfolding unless_empty
unless_mem [] x m = absurd (Memᴰ.not-nil m)
unless_mem (s ∷ l) x m = (Memᴰ.eq_of_singleton m, (s, Memᴰ.head refl))

mem_unless : (l : List ℕ) (x s : ℕ) → Memᴰ s l → Memᴰ x (unless_empty l (x ∷ []))
unfolding unless_empty
mem_unless [] x s m = absurd (Memᴰ.not-nil m)
mem_unless (y ∷ l) x s m = Memᴰ.head refl

strict_unless : (R : ℕ → ℕ → Type 0) (l : List ℕ) (x : ℕ) → Strict R (unless_empty l (x ∷ []))
unfolding unless_empty
strict_unless R [] x = tt
strict_unless R (y ∷ l) x = (λ y m. absurd (Memᴰ.not-nil m), tt)

module _ (file : List ℕ) (readable : Readable file) (f : ℕ) where
  abbrev t : Part
  t = part_of file

  abbrev R : ℕ → ℕ → Type 0
  R x y = face_before t x y ≡ true

  record HasEdge (g : ℕ) : Type 0 where
    edge : ℕ
    below : edge < t.vertices
    is_edge : is_edge_of_word t f edge ≡ true
    leads : other_face t f edge ≡ g

  has_below : (g : ℕ) → HasEdge g → g < faces_of t
  has_below g h = omega (arith, h.leads, other_below file readable h.edge (omega (arith, h.below, part_vertices file)) f h.is_edge)

  between_has : (g : ℕ) {s : ℕ} → Memᴰ s (edges_between t f g) → HasEdge g
  between_has g {s} m =
      let w = between_edge t f g m in
      record { edge = s; below = w.0; is_edge = between_of t f g s w.1; leads = between_leads t f g s w.1 }

  -- ---- all neighbours past `after`, in rising order
  record Rest (after : ℕ) (l : List ℕ) : Type 0 where
    rises : Strict R l
    each : (g : ℕ) → Memᴰ g l → HasEdge g × (is_past t after g ≡ true)
    all : (s : ℕ) → s < t.vertices → is_wanted t f after s ≡ true → Memᴰ (other_face t f s) l

  rest_none : (after : ℕ) → Rest after [] → next_neighbour t f after ≡ 0
  rest_none after h = none_next t f after (λ s l. refuted (is_wanted t f after s) (λ w. Memᴰ.not-nil (h.all s l w)))

  rest_next : (after g : ℕ) (l : List ℕ) → Rest after (g ∷ l) → next_neighbour t f after ≡ g + 1
  rest_next after g l h =
      let here = h.each g (Memᴰ.head refl) in
      let e = here.0 in
      is_next file readable f after g
      (record {
        edge = e.edge;
        below = e.below;
        wanted = wanted_is t f after e.edge e.is_edge (ap (is_past t after) e.leads ∙ here.1);
        leads = e.leads;
        least = λ s low w. least s (Memᴰ.cases_cons (h.all s low w));
      })
    where
      least : (s : ℕ) → (other_face t f s ≡ g) ⊎ Memᴰ (other_face t f s) l → face_before t (other_face t f s) g ≡ false
      least s (inl e) = ap (λ (x : ℕ). face_before t x g) e ∙ face_irreflexive t g
      least s (inr m) =
          refuted (face_before t (other_face t f s) g)
          (λ b. contrary (face_transitive t g (other_face t f s) g (h.rises.0 (other_face t f s) m) b) (face_irreflexive t g))

  rest_tail : (after g : ℕ) (l : List ℕ) → Rest after (g ∷ l) → Rest (g + 1) l
  rest_tail after g l h =
      record {
        rises = h.rises.1;
        each = λ x m. ((h.each x (Memᴰ.tail m)).0, past_suc t g x ∙ h.rises.0 x m);
        all = λ s low w. all s low w (past_g s w);
      }
    where
      past_g : (s : ℕ) → is_wanted t f (g + 1) s ≡ true → face_before t g (other_face t f s) ≡ true
      past_g s w = sym (past_suc t g (other_face t f s)) ∙ wanted_past t f (g + 1) s w

      other : (s : ℕ) → face_before t g (other_face t f s) ≡ true → (other_face t f s ≡ g) ⊎ Memᴰ (other_face t f s) l → Memᴰ (other_face t f s) l
      other s b (inl e) = absurd (contrary (ap (face_before t g) (sym e) ∙ b) (face_irreflexive t g))
      other s b (inr m) = m

      all : (s : ℕ) → s < t.vertices → is_wanted t f (g + 1) s ≡ true → face_before t g (other_face t f s) ≡ true → Memᴰ (other_face t f s) l
      all s low w b =
          other s b (Memᴰ.cases_cons (h.all s low
          (wanted_is t f after s (wanted_edge t f (g + 1) s w) (past_then t after g (other_face t f s) (h.each g (Memᴰ.head refl)).1 b))))

  -- the answers from turn k on are the list, and then 0
  record Answers (k : ℕ) (l : List ℕ) : Type 0 where
    is : (j : ℕ) → j < length l → neighbour_at t f (k + j) ≡ get_or l j 0 + 1
    over : neighbour_at t f (k + length l) ≡ 0

  answers : (k after : ℕ) (l : List ℕ) → neighbour_at t f k ≡ next_neighbour t f after → Rest after l → Answers k l
  answers k after [] e h =
      let here : k + 0 ≡ k = omega arith in
      record { is = λ j l. absurd (omega (arith, l)); over = ap (neighbour_at t f) here ∙ e ∙ rest_none after h }
  answers k after (g ∷ l) e h =
      let first : neighbour_at t f k ≡ g + 1 = e ∙ rest_next after g l h in
      go first (answers (suc k) (g + 1) l (tour_step t f k g first) (rest_tail after g l h))
    where
      go : neighbour_at t f k ≡ g + 1 → Answers (suc k) l → Answers k (g ∷ l)
      go first a = record { is = is; over = let there : k + suc (length l) ≡ suc k + length l = omega arith in ap (neighbour_at t f) there ∙ a.over }
        where
          is : (j : ℕ) → j < suc (length l) → neighbour_at t f (k + j) ≡ get_or (g ∷ l) j 0 + 1
          is zero low = let here : k + 0 ≡ k = omega arith in ap (neighbour_at t f) here ∙ first
          is (suc j) low = let there : k + suc j ≡ suc k + j = omega arith in ap (neighbour_at t f) there ∙ a.is j (omega (arith, low))

  -- ---- the list
  abbrev of_rank : ℕ → List ℕ
  of_rank r = unless_empty (edges_between t f (face_of_rank t r)) (face_of_rank t r ∷ [])

  rank_has : (r g : ℕ) → Memᴰ g (of_rank r) → (g ≡ face_of_rank t r) × HasEdge g
  rank_has r g m =
      let w = unless_mem (edges_between t f (face_of_rank t r)) (face_of_rank t r) m in
      (w.0, subst HasEdge (sym w.0) (between_has (face_of_rank t r) w.1.1))

  -- its rank
  rank_at_lem : (r g : ℕ) → Memᴰ g (of_rank r) → rank_of t g ≡ r
  rank_at_lem r g m =
      let w = rank_has r g m in
      let low : face_of_rank t r < faces_of t = omega (arith, w.0, has_below g w.1) in
      ap (rank_of t) w.0 ∙ rank_of_face t r low

  rank_rises : (k r x y : ℕ) → k < r → Memᴰ x (of_rank k) → Memᴰ y (of_rank r) → R x y
  rank_rises k r x y l a b =
      before_rank t x y (has_below x (rank_has k x a).1) (has_below y (rank_has r y b).1)
      ∙ lt-ltb (rank_of t x) (rank_of t y) (omega (arith, rank_at_lem k x a, rank_at_lem r y b, l))

  list_rises : (n : ℕ) → Strict R (joined of_rank n)
  list_rises zero = subst (Strict R) (sym (joined_none of_rank)) tt
  list_rises (suc n) =
      subst (Strict R) (sym (joined_suc of_rank n))
      (strict_append R (joined of_rank n) (of_rank n) (list_rises n) (strict_unless R (edges_between t f (face_of_rank t n)) (face_of_rank t n))
      (λ x y a b. let w = mem_joined of_rank n a in rank_rises w.0 n x y w.1 w.2 b))

  list_has : (s : ℕ) → s < t.vertices → is_edge_of_word t f s ≡ true → Memᴰ (other_face t f s) (joined of_rank (faces_of t))
  list_has s l e =
      let g = other_face t f s in
      let there : g < faces_of t = other_below file readable s (omega (arith, l, part_vertices file)) f e in
      let face = face_of_rank_lem t g there in
      joined_mem of_rank (faces_of t) (rank_of t g) (rank_below t g there)
      (subst (λ (k : ℕ). Memᴰ g (unless_empty (edges_between t f k) (k ∷ []))) (sym face)
      (mem_unless (edges_between t f g) g s (edge_between t f g s l (leads_between t f s e))))

  list_rest : Rest 0 (joined of_rank (faces_of t))
  list_rest =
      record {
        rises = list_rises (faces_of t);
        each = λ g m. let w = mem_joined of_rank (faces_of t) m in ((rank_has w.0 g w.2).1, past_zero t g);
        all = λ s l w. list_has s l (wanted_edge t f 0 s w);
      }

  neighbour_answers : Answers 0 (neighbours_of t f)
  unfolding neighbours_of over_neighbours
  neighbour_answers = answers 0 0 (joined of_rank (faces_of t)) (tour_first t f) list_rest

  pub neighbour_is : (k : ℕ) → k < length (neighbours_of t f) → neighbour_at t f k ≡ get_or (neighbours_of t f) k 0 + 1
  neighbour_is k l =
      let here : k ≡ 0 + k = omega arith in
      ap (neighbour_at t f) here ∙ neighbour_answers.is k l

  pub neighbour_over : neighbour_at t f (length (neighbours_of t f)) ≡ 0
  neighbour_over =
      let here : length (neighbours_of t f) ≡ 0 + length (neighbours_of t f) = omega arith in
      ap (neighbour_at t f) here ∙ neighbour_answers.over

  -- its members are the faces that f has an edge with
  pub neighbour_mem : (s : ℕ) → s < t.vertices → is_edge_of_word t f s ≡ true → Memᴰ (other_face t f s) (neighbours_of t f)
  unfolding neighbours_of over_neighbours
  neighbour_mem s l e = list_has s l e
