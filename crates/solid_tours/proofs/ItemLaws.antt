-- The items: each edge under both its faces. Those of a pair of faces are the edges between them, in the order of the shared segments.
use mathlib.Core.Path.{◌≡◌, refl, sym, ap, ◌∙◌, subst}
use mathlib.Core.Bool.{Bool, true, false, not, ◌&&◌, ◌||◌, cond}
use mathlib.Core.Logic.{◌⊎◌, inl, inr}
use Rattle.std.proofs.Common.{Some, None}
use mathlib.Core.List.{List, [], ◌∷◌, ◌++◌, map, Memᴰ}
use Prim.Native.Nat.{ℕ, ◌+◌, ◌*◌, ◌/◌, ◌%◌, ◌≤◌, ◌<◌}
use native.Mathlib.Omega.{arith}
use lib.Dec.{eqb}
use lib.ListN.{get_or}
use borrow.Author.Tests.{eq-eqb, ne_eqb, eqb-true, not-true}
use Rattle.num_float.proofs.Tests.{contrary, same_test, and_true, and_left, and_right, cond_has, lt_or_ge}
use Rattle.list_groups.specs.Groups.{passing}
use Rattle.list_groups.specs.Work.{with_key, pair_key}
use Rattle.list_groups.proofs.Strict.{place_mem}
use Rattle.list_groups.proofs.Order.{mem_with}
use Rattle.list_groups.proofs.Pairs.{passing_same, pair_is, pair_below}
use Rattle.file_part.specs.Layout.{vertex_count_of}
use Rattle.file_part.specs.Part.{Part, part_of}
use Rattle.file_part.proofs.PartLaws.{part_vertices}
use Rattle.file_ok.specs.Work.{Readable}
use Rattle.solid_faces.specs.Faces.{faces_of}
use Rattle.solid_edges.specs.Edges.{face_of_side, face_beyond, is_edge_of, is_edge_of_word, other_face, is_between, is_two, pair_in}
use Rattle.solid_edges.specs.Work.{leads_to}
use Rattle.solid_edges.proofs.ScanLaws.{face_below}
use Rattle.solid_edges.proofs.EdgeLaws.{beyond_below, other_below}
use Rattle.solid_ranks.specs.Ranks.{rank_of, face_of_rank}
use Rattle.solid_ranks.proofs.RankLaws.{rank_below, rank_apart, face_of_rank_lem, rank_of_face}
use Rattle.solid_tours.specs.Tours.{edges_between}
use Rattle.solid_tours.specs.Work.Kept.{edge_sides, item_count, item_side, item_face, item_other, item_key}
use Rattle.solid_tours.proofs.Passing.{mem_passing, twice_test, twice_passing}

-- ---- an edge has two faces
pub edge_apart : (t : Part) (s : ℕ) → is_edge_of t s ≡ true → face_of_side t s ≡ face_beyond t s → ⊥
unfolding is_edge_of
edge_apart t s h e =
    contrary (eq-eqb (face_of_side t s) (face_beyond t s) e)
    (not-true (eqb (face_of_side t s) (face_beyond t s)) (and_right (is_two t.vertices s (pair_in t s)) (not (eqb (face_of_side t s) (face_beyond t s))) h))

-- under one or the other, an edge between f and g
module _ (t : Part) (f g s : ℕ) where
  abbrev near : ℕ
  near = face_of_side t s

  abbrev far : ℕ
  far = face_beyond t s

  abbrev pub near_test_lem : Bool
  near_test_lem = eqb near f && eqb far g

  abbrev pub far_test_lem : Bool
  far_test_lem = eqb far f && eqb near g

  both_one : is_edge_of t s ≡ true → cond near_test_lem (s ∷ []) [] ++ cond far_test_lem (s ∷ []) [] ≡ cond (is_between t f g s) (s ∷ []) []
  unfolding is_between is_edge_of_word other_face
  both_one e = rw e (go (eqb near f) (eqb far f) refl refl)
    where
      go : (a b : Bool) → eqb near f ≡ a → eqb far f ≡ b
          → cond (a && eqb far g) (s ∷ []) [] ++ cond (b && eqb near g) (s ∷ []) [] ≡ cond ((a || b) && eqb (cond a far near) g) (s ∷ []) []
      go true true p q = absurd (edge_apart t s e (eqb-true near f p ∙ sym (eqb-true far f q)))
      go true false p q = one (eqb far g)
        where
          one : (c : Bool) → cond c (s ∷ []) [] ++ [] ≡ cond c (s ∷ []) []
          one true = refl
          one false = refl
      go false true p q = refl
      go false false p q = refl

  between_none : is_edge_of t s ≡ false → is_between t f g s ≡ false
  unfolding is_between is_edge_of_word
  between_none e = rw e

-- ---- one item
module _ (s : List ℕ) (readable : Readable s) where
  abbrev t : Part
  t = part_of s

  abbrev n : ℕ
  n = faces_of t

  abbrev m : ℕ
  m = item_count t

  pub item_side_lem : (k : ℕ) → k < m → (item_side t k < t.vertices) × (is_edge_of t (item_side t k) ≡ true)
  unfolding item_count item_side edge_sides
  item_side_lem k h = mem_passing (is_edge_of t) t.vertices (place_mem (passing (is_edge_of t) t.vertices) (k / 2) (omega (arith, h)))

  module _ (k : ℕ) (h : k < m) where
    in_file : item_side t k < vertex_count_of s
    in_file = omega (arith, (item_side_lem k h).0, part_vertices s)

    near_below : face_of_side t (item_side t k) < n
    near_below = face_below s readable (item_side t k) in_file

    far_below : face_beyond t (item_side t k) < n
    far_below = beyond_below s readable (item_side t k) in_file (item_side_lem k h).1

    pub face_inside : item_face t k < n
    unfolding item_face
    face_inside = cond_has (λ x. x < n) (eqb (k % 2) 0) near_below far_below

    pub other_inside : item_other t k < n
    unfolding item_other
    other_inside = cond_has (λ x. x < n) (eqb (k % 2) 0) far_below near_below

    pub key_below : item_key t k < n * n
    unfolding item_key pair_key
    key_below = pair_below n (rank_of t (item_face t k)) (rank_of t (item_other t k)) (rank_below t (item_face t k) face_inside) (rank_below t (item_other t k) other_inside)

    pub key_is : item_key t k ≡ rank_of t (item_face t k) * n + rank_of t (item_other t k)
    unfolding item_key pair_key
    key_is = refl

    -- its faces by its key
    pub key_faces : (a b : ℕ) → b < n → item_key t k ≡ a * n + b → (rank_of t (item_face t k) ≡ a) × (rank_of t (item_other t k) ≡ b)
    key_faces a b l e =
        pair_is n (rank_of t (item_face t k)) (rank_of t (item_other t k)) a b (rank_below t (item_other t k) other_inside) l (sym key_is ∙ e)

    -- it leads from its face to the other
    pub item_leads : (f : ℕ) → item_face t k ≡ f → leads_to t f (item_side t k) ≡ Some (item_other t k)
    unfolding item_face item_other leads_to is_edge_of_word other_face
    item_leads f e = rw (item_side_lem k h).1 (go (eqb (k % 2) 0) e)
      where
        x : ℕ
        x = face_of_side t (item_side t k)

        y : ℕ
        y = face_beyond t (item_side t k)

        go : (b : Bool) → cond b x y ≡ f → cond (eqb x f || eqb y f) (Some (cond (eqb x f) y x)) None ≡ Some (cond b y x)
        go true q = rw (eq-eqb x f q)
        go false q = rw (ne_eqb x f (λ z. edge_apart t (item_side t k) (item_side_lem k h).1 (z ∙ sym q)), eq-eqb y f q)

  -- ---- the items of a pair of faces
  module _ (f g : ℕ) (lf : f < n) (lg : g < n) where
    test_is : (k : ℕ) → k < m → eqb (item_key t k) (rank_of t f * n + rank_of t g) ≡ (eqb (item_face t k) f && eqb (item_other t k) g)
    test_is k h =
        same_test (eqb (item_key t k) (rank_of t f * n + rank_of t g)) (eqb (item_face t k) f && eqb (item_other t k) g)
        (λ e.
        let w = key_faces k h (rank_of t f) (rank_of t g) (rank_below t g lg) (eqb-true (item_key t k) (rank_of t f * n + rank_of t g) e) in
        and_true (eqb (item_face t k) f) (eqb (item_other t k) g) (eq-eqb (item_face t k) f (rank_apart t (item_face t k) f (face_inside k h) lf w.0))
        (eq-eqb (item_other t k) g (rank_apart t (item_other t k) g (other_inside k h) lg w.1)))
        (λ e.
        let a : item_face t k ≡ f = eqb-true (item_face t k) f (and_left (eqb (item_face t k) f) (eqb (item_other t k) g) e) in
        let b : item_other t k ≡ g = eqb-true (item_other t k) g (and_right (eqb (item_face t k) f) (eqb (item_other t k) g) e) in
        eq-eqb (item_key t k) (rank_of t f * n + rank_of t g)
        (key_is k h ∙ ap (λ (i : ℕ). rank_of t i * n + rank_of t (item_other t k)) a ∙ ap (λ (i : ℕ). rank_of t f * n + rank_of t i) b))

    faces_test : (k : ℕ) → (eqb (item_face t k) f && eqb (item_other t k) g) ≡ twice_test (near_test_lem t f g) (far_test_lem t f g) (edge_sides t) k
    unfolding item_face item_other item_side
    faces_test k = go (eqb (k % 2) 0)
      where
        x : ℕ
        x = face_of_side t (get_or (edge_sides t) (k / 2) 0)

        y : ℕ
        y = face_beyond t (get_or (edge_sides t) (k / 2) 0)

        go : (b : Bool) → (eqb (cond b x y) f && eqb (cond b y x) g) ≡ cond b (eqb x f && eqb y g) (eqb y f && eqb x g)
        go true = refl
        go false = refl

    pub between_items : map (item_side t) (with_key (item_key t) (rank_of t f * n + rank_of t g) m) ≡ edges_between t f g
    unfolding with_key item_count item_side edge_sides edges_between
    between_items =
        ap (map (item_side t))
        (passing_same (λ k. eqb (item_key t k) (rank_of t f * n + rank_of t g)) (twice_test (near_test_lem t f g) (far_test_lem t f g) (edge_sides t)) m
        (λ k h. test_is k h ∙ faces_test k))
        ∙ twice_passing (near_test_lem t f g) (far_test_lem t f g) (is_edge_of t) (is_between t f g) t.vertices (λ z l e. both_one t f g z e) (λ z l e. between_none t f g z e)

  -- ---- the items of a face and a rank
  no_items : (f b : ℕ) → f < n → b < n → n ≤ face_of_rank t b → with_key (item_key t) (rank_of t f * n + b) m ≡ []
  no_items f b lf l none = go (with_key (item_key t) (rank_of t f * n + b) m) refl
    where
      go : (xs : List ℕ) → with_key (item_key t) (rank_of t f * n + b) m ≡ xs → xs ≡ []
      go [] e = refl
      go (k ∷ xs) e =
          let w = mem_with (item_key t) (rank_of t f * n + b) m (subst (Memᴰ k) (sym e) (Memᴰ.head refl)) in
          let q = (key_faces k w.0 (rank_of t f) b l w.1).1 in
          absurd (omega (arith, none, ap (face_of_rank t) (sym q), face_of_rank_lem t (item_other t k) (other_inside k w.0), other_inside k w.0))

  no_edges : (f g : ℕ) → n ≤ g → edges_between t f g ≡ []
  unfolding edges_between is_between
  no_edges f g none = go (passing (is_between t f g) t.vertices) refl
    where
      go : (xs : List ℕ) → passing (is_between t f g) t.vertices ≡ xs → xs ≡ []
      go [] e = refl
      go (z ∷ xs) e =
          let w = mem_passing (is_between t f g) t.vertices (subst (Memᴰ z) (sym e) (Memᴰ.head refl)) in
          let edge = and_left (is_edge_of_word t f z) (eqb (other_face t f z) g) w.1 in
          let leads : other_face t f z ≡ g = eqb-true (other_face t f z) g (and_right (is_edge_of_word t f z) (eqb (other_face t f z) g) w.1) in
          absurd (omega (arith, none, leads, other_below s readable z (omega (arith, w.0, part_vertices s)) f edge))

  pub rank_items : (f b : ℕ) → f < n → b < n → map (item_side t) (with_key (item_key t) (rank_of t f * n + b) m) ≡ edges_between t f (face_of_rank t b)
  rank_items f b lf l = go (lt_or_ge (face_of_rank t b) n)
    where
      go : (face_of_rank t b < n) ⊎ (n ≤ face_of_rank t b) → map (item_side t) (with_key (item_key t) (rank_of t f * n + b) m) ≡ edges_between t f (face_of_rank t b)
      go (inl there) =
          ap (λ (i : ℕ). map (item_side t) (with_key (item_key t) (rank_of t f * n + i) m)) (sym (rank_of_face t b there)) ∙ between_items f (face_of_rank t b) lf there
      go (inr none) = ap (map (item_side t)) (no_items f b lf l none) ∙ sym (no_edges f (face_of_rank t b) none)
