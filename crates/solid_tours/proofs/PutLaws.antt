-- The edges put as items, side by side, and their sort.
use mathlib.Core.Path.{◌≡◌, refl, sym, ap, ◌∙◌, subst, subst₂}
use mathlib.Core.Bool.{true, false}
use mathlib.Core.Logic.{◌⊎◌, inl, inr}
use Rattle.std.proofs.Common.{Some, None}
use mathlib.Core.List.{List, [], ◌∷◌, ◌++◌}
use Prim.Native.Nat.{ℕ, ◌+◌, ◌-◌, ◌*◌, ◌/◌, ◌%◌, ◌^◌, ◌≤◌, ◌<◌}
use native.Mathlib.Nat.{mul-le-mul, le_trans}
use native.Mathlib.Omega.{arith}
use lib.Dec.{eqb, lit≤}
use lib.ListN.{length, get_or, set, length-append, length-set, get_or-append}
use lib.Seq.{get_or-append-add, get_or-set_same, get_or-set_other}
use lib.Ieee.{Float, nan}
use borrow.Rule.Slice.PartMut.{put_mid}
use borrow.Author.Tests.{eq-eqb, ne_eqb}
use Rattle.num_float.proofs.Tests.{lt_or_ge}
use Rattle.list_laws.specs.Region.{part, Outside}
use Rattle.list_laws.proofs.Regions.{part_length, part_put}
use Rattle.list_laws.proofs.Outside.{outside_none, outside_then, outside_wide, outside_two, outside_put}
use Rattle.list_groups.specs.Groups.{passing}
use Rattle.list_groups.specs.Work.{pair_key, WholeIs, Keyed, Grouped, Sorted}
use Rattle.list_groups.proofs.KeyLaws.{keys_keyed}
use Rattle.file_part.specs.Layout.{vertex_count_of}
use Rattle.file_part.specs.Part.{Part, part_of}
use Rattle.solid_faces.specs.Faces.{faces_of}
use Rattle.solid_faces.proofs.BodyLaws.{checked_readable, checked_faces}
use Rattle.solid_faces.proofs.CountLaws.{few_faces}
use Rattle.solid_edges.specs.declared.edge.Edge.{Edge}
use Rattle.solid_edges.specs.Edges.{face_of_side, face_beyond, is_edge_of}
use Rattle.solid_edges.specs.Work.{EdgeIs, Lent}
use Rattle.solid_edges.proofs.EdgeLaws.{near_few, beyond_few}
use Rattle.scratch.specs.declared.regions.Regions.{Regions}
use Rattle.scratch.specs.Regions.{Laid}
use Rattle.scratch.specs.Standing.{Standing}
use Rattle.scratch.proofs.StandingLaws.{placed_polygons, placed_vertices, body_sorted, standing_still}
use Rattle.solid_ranks.specs.Ranks.{rank_of}
use Rattle.solid_ranks.specs.Kept.{Ranked}
use Rattle.solid_ranks.proofs.RankLaws.{rank_below}
use Rattle.solid_ranks.proofs.KeptLaws.{ranked_kept}
use Rattle.solid_tours.specs.Work.Kept.{edge_sides, item_count, item_side, item_face, item_other, item_key, edge_keys, edge_order}
use Rattle.solid_tours.specs.Work.{near_key_of, far_key_of, EdgesTo, EdgePut, AllPut, SortedPut}
use Rattle.solid_tours.proofs.Passing.{passing_more, passing_past}
use Rattle.solid_tours.proofs.FewEdges.{items_most, items_room}
use Rattle.solid_tours.proofs.ItemLaws.{key_below}

-- ---- the sides and the faces, as they are lent
pub standing_lent : (s : List ℕ) (at : Regions) (words : List ℕ) (reals : List Float) → Standing s at words reals → at.segments ≡ true →
    Lent s (part at.sides at.items words) (part at.faces at.readings words)
standing_lent s at words reals h on =
    record {
      faced = record {
        checked = h.placed.checked;
        known = h.the_words.faces;
        long = part_length at.faces at.readings words (omega (arith, h.words_room, h.placed.laid)) ∙ omega (arith, h.placed.laid, placed_polygons s at h.placed);
      };
      shared = h.the_words.sides on;
    }

-- ---- the keys
pub key_small : (a b n : ℕ) → a ≤ n → b ≤ n → n ≤ 1024 → (a * n ≤ 1048576) × (a * n + b ≤ 1049600)
key_small a b n h k l =
    let all : a * n ≤ 1024 * 1024 = mul-le-mul (le_trans h l) l in
    (omega (arith, all), omega (arith, all, k, l))

-- ---- two stores, one after the other
abbrev pub two_set : {X : Type 0} → List X → ℕ → ℕ → X → X → List X
two_set w b m x y = set (set w (b + m) x) (b + (m + 1)) y

module _ {X : Type 0} (d : X) (w : List X) (b m : ℕ) (x y : X) (room : b + m + 2 ≤ length w) where
  two_old : (i : ℕ) → i < m → get_or (two_set w b m x y) (b + i) d ≡ get_or w (b + i) d
  two_old i h =
      get_or-set_other (set w (b + m) x) (b + (m + 1)) (b + i) y d (λ e. omega (arith, e, h)) ∙ get_or-set_other w (b + m) (b + i) x d (λ e. omega (arith, e, h))

  two_first : get_or (two_set w b m x y) (b + m) d ≡ x
  two_first =
      get_or-set_other (set w (b + m) x) (b + (m + 1)) (b + m) y d (λ e. omega (arith, e)) ∙ get_or-set_same w (b + m) x d (omega (arith, room))

  two_second : get_or (two_set w b m x y) (b + (m + 1)) d ≡ y
  two_second = get_or-set_same (set w (b + m) x) (b + (m + 1)) y d (omega (arith, room, length-set w (b + m) x))

-- ---- no side yet
pub edges_none : (t : Part) (at : Regions) (words : List ℕ) (reals : List Float) → EdgesTo t at 0 0 words reals
unfolding passing
edges_none t at words reals =
    record {
      count = refl;
      near_side = λ e h. absurd (omega (arith, h));
      far_side = λ e h. absurd (omega (arith, h));
      near_key = λ e h. absurd (omega (arith, h));
      far_key = λ e h. absurd (omega (arith, h));
    }

-- ---- one side more
module _ (t : Part) (at : Regions) (s m : ℕ) (words : List ℕ) (reals : List Float) where
  -- no edge
  pub put_none : is_edge_of t s ≡ false → EdgePut t at s m words words reals reals m
  put_none h =
      record {
        more = λ c. go (passing (is_edge_of t) s) (passing (is_edge_of t) (s + 1)) (passing_past (is_edge_of t) s h) c;
        words_kept = outside_none 0 _ _ words;
        reals_kept = outside_none nan _ _ reals;
      }
    where
      go : (a b : List ℕ) → b ≡ a → EdgesTo t at s m words reals → EdgesTo t at (s + 1) m words reals
      go a b e c =
          let same = passing_past (is_edge_of t) s h in
          record {
            count = c.count ∙ ap (λ (l : List ℕ). 2 * length l) (sym same);
            near_side = subst (λ (l : List ℕ). (e : ℕ) → e < length l → get_or words (at.items + 2 * e) 0 ≡ get_or l e 0) (sym same) c.near_side;
            far_side = subst (λ (l : List ℕ). (e : ℕ) → e < length l → get_or words (at.items + (2 * e + 1)) 0 ≡ get_or l e 0) (sym same) c.far_side;
            near_key = subst (λ (l : List ℕ). (e : ℕ) → e < length l → WholeIs (near_key_of t (get_or l e 0)) (get_or reals (at.directions + 2 * e) nan)) (sym same) c.near_key;
            far_key = subst (λ (l : List ℕ). (e : ℕ) → e < length l → WholeIs (far_key_of t (get_or l e 0)) (get_or reals (at.directions + (2 * e + 1)) nan)) (sym same) c.far_key;
          }

  -- one, under both its faces
  module _ (x y : Float) (edge : is_edge_of t s ≡ true) (kx : WholeIs (near_key_of t s) x) (ky : WholeIs (far_key_of t s) y) (laid : Laid at) (words_room : at.words ≤ length words)
      (reals_room : at.reals ≤ length reals) (room : m + 2 ≤ at.vertices) where
    abbrev was : List ℕ
    was = passing (is_edge_of t) s

    abbrev next : List ℕ
    next = was ++ (s ∷ [])

    words_fit : at.items + m + 2 ≤ length words
    words_fit = omega (arith, laid, words_room, room)

    reals_fit : at.directions + m + 2 ≤ length reals
    reals_fit = omega (arith, laid, reals_room, room)

    abbrev words' : List ℕ
    words' = two_set words at.items m s s

    abbrev reals' : List Float
    reals' = two_set reals at.directions m x y

    old : (e : ℕ) → e < length was → get_or next e 0 ≡ get_or was e 0
    old e h = get_or-append was (s ∷ []) 0 e h

    new : (e : ℕ) → e ≡ length was → get_or next e 0 ≡ s
    new e h =
        let here : e ≡ length was + 0 = omega (arith, h) in
        ap (λ (k : ℕ). get_or next k 0) here ∙ get_or-append-add was (s ∷ []) 0 0

    -- what holds of the edges before and of this one holds of all
    each : (P : ℕ → ℕ → Type 0) → ((e : ℕ) → e < length was → P e (get_or was e 0)) → P (length was) s → (e : ℕ) → e < length next → P e (get_or next e 0)
    each P before last e h = go (lt_or_ge e (length was))
      where
        go : (e < length was) ⊎ (length was ≤ e) → P e (get_or next e 0)
        go (inl low) = subst (P e) (sym (old e low)) (before e low)
        go (inr high) =
            let same : e ≡ length was = omega (arith, h, high, length-append was (s ∷ [])) in
            subst₂ P (sym same) (sym (new e same)) last

    grown : EdgesTo t at s m words reals → EdgesTo t at (s + 1) (m + 2) words' reals'
    grown c =
        let size : m ≡ 2 * length was = c.count in
        let at_first : at.items + 2 * length was ≡ at.items + m = omega (arith, size) in
        let at_second : at.items + (2 * length was + 1) ≡ at.items + (m + 1) = omega (arith, size) in
        let key-first : at.directions + 2 * length was ≡ at.directions + m = omega (arith, size) in
        let key-second : at.directions + (2 * length was + 1) ≡ at.directions + (m + 1) = omega (arith, size) in
        let all = passing_more (is_edge_of t) s edge in
        record {
          count = omega (arith, size, ap length all, length-append was (s ∷ []));
          near_side = subst (λ (l : List ℕ). (e : ℕ) → e < length l → get_or words' (at.items + 2 * e) 0 ≡ get_or l e 0) (sym all)
              (each (λ e z. get_or words' (at.items + 2 * e) 0 ≡ z)
              (λ e h. two_old 0 words at.items m s s words_fit (2 * e) (omega (arith, h, size)) ∙ c.near_side e h)
              (ap (λ (k : ℕ). get_or words' k 0) at_first ∙ two_first 0 words at.items m s s words_fit));
          far_side = subst (λ (l : List ℕ). (e : ℕ) → e < length l → get_or words' (at.items + (2 * e + 1)) 0 ≡ get_or l e 0) (sym all)
              (each (λ e z. get_or words' (at.items + (2 * e + 1)) 0 ≡ z)
              (λ e h. two_old 0 words at.items m s s words_fit (2 * e + 1) (omega (arith, h, size)) ∙ c.far_side e h)
              (ap (λ (k : ℕ). get_or words' k 0) at_second ∙ two_second 0 words at.items m s s words_fit));
          near_key = subst (λ (l : List ℕ). (e : ℕ) → e < length l → WholeIs (near_key_of t (get_or l e 0)) (get_or reals' (at.directions + 2 * e) nan)) (sym all)
              (each (λ e z. WholeIs (near_key_of t z) (get_or reals' (at.directions + 2 * e) nan))
              (λ e h. subst (WholeIs (near_key_of t (get_or was e 0))) (sym (two_old nan reals at.directions m x y reals_fit (2 * e) (omega (arith, h, size)))) (c.near_key e h))
              (subst (WholeIs (near_key_of t s)) (sym (ap (λ (k : ℕ). get_or reals' k nan) key-first ∙ two_first nan reals at.directions m x y reals_fit)) kx));
          far_key = subst (λ (l : List ℕ). (e : ℕ) → e < length l → WholeIs (far_key_of t (get_or l e 0)) (get_or reals' (at.directions + (2 * e + 1)) nan)) (sym all)
              (each (λ e z. WholeIs (far_key_of t z) (get_or reals' (at.directions + (2 * e + 1)) nan))
              (λ e h. subst (WholeIs (far_key_of t (get_or was e 0))) (sym (two_old nan reals at.directions m x y reals_fit (2 * e + 1) (omega (arith, h, size)))) (c.far_key e h))
              (subst (WholeIs (far_key_of t s)) (sym (ap (λ (k : ℕ). get_or reals' k nan) key-second ∙ two_second nan reals at.directions m x y reals_fit)) ky));
        }

    pub put_two : EdgePut t at s m words words' reals reals' (m + 2)
    put_two =
        record {
          more = grown;
          words_kept = outside_two 0 at.items at.sorted words (at.items + m) (at.items + (m + 1)) s s (omega arith) (omega (arith, laid, room)) (omega arith) (omega (arith, laid, room));
          reals_kept = outside_two nan at.directions at.free reals (at.directions + m) (at.directions + (m + 1)) x y (omega arith) (omega (arith, laid, room)) (omega arith)
              (omega (arith, laid, room));
        }

-- ---- what `put_edge` knows of a side that is an edge
module _ (s : List ℕ) (at : Regions) (words : List ℕ) (reals : List Float) (h : Standing s at words reals) (ranked : Ranked (part_of s) at words) (n i m : ℕ)
    (count : n ≡ faces_of (part_of s)) (low : i < at.vertices) (before : m ≡ 2 * length (passing (is_edge_of (part_of s)) i)) where
  abbrev u : Part
  u = part_of s

  pub side_in : i < vertex_count_of s
  side_in = omega (arith, low, h.placed.vertices)

  pub few : n ≤ 1024
  few = omega (arith, count, checked_faces s h.placed.checked)

  pub few_cells : faces_of u ≤ 4096
  few_cells = omega (arith, few_faces u, placed_polygons s at h.placed, h.placed.laid)

  pub none_put : EdgeIs u i None → EdgePut u at i m words words reals reals m
  unfolding EdgeIs
  none_put is = put_none u at i m words reals is

  module _ (e : Edge) (is : EdgeIs u i (Some e)) where
    edge : is_edge_of u i ≡ true
    unfolding EdgeIs
    edge = is.0

    pub near_in : e.near < faces_of u
    near_in = near_few s (checked_readable s h.placed.checked) i side_in e is

    pub far_in : e.beyond < faces_of u
    far_in = beyond_few s (checked_readable s h.placed.checked) i side_in e is

    pub two_room : m + 2 ≤ at.vertices
    two_room = omega (arith, before, items_room u i (omega (arith, low, placed_vertices s at h.placed)) edge, placed_vertices s at h.placed)

    pub ranks_room : (at.ranks + e.near < length words) × (at.ranks + e.beyond < length words)
    ranks_room = (
      omega (arith, near_in, few_faces u, placed_polygons s at h.placed, h.placed.laid, h.words_room),
      omega (arith, far_in, few_faces u, placed_polygons s at h.placed, h.placed.laid, h.words_room),
    )

    module _ (a b : ℕ) (ea : a ≡ get_or words (at.ranks + e.near) 0) (eb : b ≡ get_or words (at.ranks + e.beyond) 0) where
      rank_near : a ≡ rank_of u (face_of_side u i)
      unfolding EdgeIs
      rank_near = ea ∙ ranked.each e.near near_in ∙ ap (rank_of u) is.1

      rank_far : b ≡ rank_of u (face_beyond u i)
      unfolding EdgeIs
      rank_far = eb ∙ ranked.each e.beyond far_in ∙ ap (rank_of u) is.2

      pub ranks_in : (a ≤ n) × (b ≤ n)
      ranks_in = (
        omega (arith, ea, ranked.each e.near near_in, rank_below u e.near near_in, count),
        omega (arith, eb, ranked.each e.beyond far_in, rank_below u e.beyond far_in, count),
      )

      pub both_put : (x y : Float) → WholeIs (a * n + b) x → WholeIs (b * n + a) y →
          EdgePut u at i m words (set (set words (at.items + m) i) (at.items + (m + 1)) i) reals (set (set reals (at.directions + m) x) (at.directions + (m + 1)) y) (m + 2)
      unfolding near_key_of far_key_of
      both_put x y kx ky =
          put_two u at i m words reals x y edge
          (subst (λ (k : ℕ). WholeIs k x) (ap (λ (k : ℕ). k * n + b) rank_near ∙ ap (λ (k : ℕ). rank_of u (face_of_side u i) * n + k) rank_far ∙ ap (λ (k : ℕ). rank_of u (face_of_side u i) * k + rank_of u (face_beyond u i)) count) kx)
          (subst (λ (k : ℕ). WholeIs k y) (ap (λ (k : ℕ). k * n + a) rank_far ∙ ap (λ (k : ℕ). rank_of u (face_beyond u i) * n + k) rank_near ∙ ap (λ (k : ℕ). rank_of u (face_beyond u i) * k + rank_of u (face_of_side u i)) count) ky)
          h.placed.laid h.words_room h.reals_room two_room

-- ---- the body and the ranks are as they were
module _ (s : List ℕ) (at : Regions) (words words' : List ℕ) (reals reals' : List Float) (e : ℕ) (h : Standing s at words reals) (high : e ≤ at.chain)
    (w : Outside 0 at.items e words words') (r : Outside nan at.directions at.free reals reals') where
  pub still_standing : Standing s at words' reals'
  still_standing =
      standing_still s at at.free words words' reals reals' h (body_sorted at h.placed.laid at.items e words words' (omega arith) high w)
      (outside_wide nan _ _ _ _ reals reals' (omega (arith, h.placed.laid)) (omega arith) r)

  pub still_ranked : Ranked (part_of s) at words → Ranked (part_of s) at words'
  still_ranked ranked = ranked_kept (part_of s) at words words' (λ f l. w.above (at.ranks + f) (omega (arith, h.placed.laid, high))) ranked

-- ---- all sides
pub all_put : (s : List ℕ) (at : Regions) (words words' : List ℕ) (reals reals' : List Float) (i m : ℕ) → Standing s at words reals → i ≤ at.vertices → at.vertices ≤ i →
    EdgesTo (part_of s) at i m words' reals' → Outside 0 at.items at.sorted words words' → Outside nan at.directions at.free reals reals' →
    AllPut s at words words' reals reals' m
all_put s at words words' reals reals' i m h a b put w r =
    let all : i ≡ (part_of s).vertices = omega (arith, a, b, placed_vertices s at h.placed) in
    record { put = subst (λ (k : ℕ). EdgesTo (part_of s) at k m words' reals') all put; words_kept = w; reals_kept = r }

-- ---- the items by their numbers
parity : (k : ℕ) → ((eqb (k % 2) 0 ≡ true) × (2 * (k / 2) ≡ k)) ⊎ ((eqb (k % 2) 0 ≡ false) × (2 * (k / 2) + 1 ≡ k))
parity k = go (lt_or_ge 0 (k % 2))
  where
    go : (0 < k % 2) ⊎ (k % 2 ≤ 0) → ((eqb (k % 2) 0 ≡ true) × (2 * (k / 2) ≡ k)) ⊎ ((eqb (k % 2) 0 ≡ false) × (2 * (k / 2) + 1 ≡ k))
    go (inl odd) = inr (ne_eqb (k % 2) 0 (λ e. omega (arith, e, odd)), omega (arith, odd))
    go (inr even) = inl (eq-eqb (k % 2) 0 (omega (arith, even)), omega (arith, even))

module _ (t : Part) (at : Regions) (m : ℕ) (words : List ℕ) (reals : List Float) (put : EdgesTo t at t.vertices m words reals) where
  pub count_is : m ≡ item_count t
  unfolding item_count edge_sides
  count_is = put.count

  pub side_there : (k : ℕ) → k < m → get_or words (at.items + k) 0 ≡ item_side t k
  unfolding item_side edge_sides
  side_there k h = go (parity k)
    where
      go : ((eqb (k % 2) 0 ≡ true) × (2 * (k / 2) ≡ k)) ⊎ ((eqb (k % 2) 0 ≡ false) × (2 * (k / 2) + 1 ≡ k)) →
          get_or words (at.items + k) 0 ≡ get_or (passing (is_edge_of t) t.vertices) (k / 2) 0
      go (inl w) = ap (λ (i : ℕ). get_or words (at.items + i) 0) (sym w.1) ∙ put.near_side (k / 2) (omega (arith, h, put.count))
      go (inr w) = ap (λ (i : ℕ). get_or words (at.items + i) 0) (sym w.1) ∙ put.far_side (k / 2) (omega (arith, h, put.count))

  key_near : (k : ℕ) → eqb (k % 2) 0 ≡ true → near_key_of t (get_or (passing (is_edge_of t) t.vertices) (k / 2) 0) ≡ item_key t k
  unfolding item_key pair_key item_face item_other item_side edge_sides near_key_of
  key_near k e = rw e

  key_far : (k : ℕ) → eqb (k % 2) 0 ≡ false → far_key_of t (get_or (passing (is_edge_of t) t.vertices) (k / 2) 0) ≡ item_key t k
  unfolding item_key pair_key item_face item_other item_side edge_sides far_key_of
  key_far k e = rw e

  pub key_there : (k : ℕ) → k < m → WholeIs (item_key t k) (get_or reals (at.directions + k) nan)
  key_there k h = go (parity k)
    where
      go : ((eqb (k % 2) 0 ≡ true) × (2 * (k / 2) ≡ k)) ⊎ ((eqb (k % 2) 0 ≡ false) × (2 * (k / 2) + 1 ≡ k)) →
          WholeIs (item_key t k) (get_or reals (at.directions + k) nan)
      go (inl w) =
          subst₂ (λ (x i : ℕ). WholeIs x (get_or reals (at.directions + i) nan)) (key_near k w.0) w.1 (put.near_key (k / 2) (omega (arith, h, put.count)))
      go (inr w) =
          subst₂ (λ (x i : ℕ). WholeIs x (get_or reals (at.directions + i) nan)) (key_far k w.0) w.1 (put.far_key (k / 2) (omega (arith, h, put.count)))

-- ---- the sort
module _ (s : List ℕ) (at : Regions) (words words1 : List ℕ) (reals reals1 : List Float) (m : ℕ) (h : Standing s at words reals) (ranked : Ranked (part_of s) at words)
    (all : AllPut s at words words1 reals reals1 m) where
  abbrev v : Part
  v = part_of s

  abbrev n : ℕ
  n = faces_of v

  counted : m ≡ item_count v
  counted = count_is v at m words1 reals1 all.put

  pub most : m ≤ at.vertices
  most = omega (arith, counted, items_most v, placed_vertices s at h.placed)

  pub sort_room : (2 * m ≤ length (edge_order at words1)) × ((m ≤ length (edge_keys at reals1)) × (m ≤ 16384))
  sort_room =
      let laid = h.placed.laid in (
        omega (arith, part_length at.sorted at.chain words1 (omega (arith, laid, h.words_room, all.words_kept.long)), most, laid),
        (omega (arith, part_length at.directions at.free reals1 (omega (arith, laid, h.reals_room, all.reals_kept.long)), most, laid), omega (arith, most, laid)),
      )

  exact : n * n ≤ 2 ^ 53
  exact =
      let few : n ≤ 1024 = checked_faces s h.placed.checked in
      let small : n * n ≤ 1024 * 1024 = mul-le-mul few few in
      le_trans small (lit≤ tt)

  keyed : Keyed (edge_keys at reals1) (item_key v) m (n * n)
  keyed =
      keys_keyed (item_key v) at.directions at.free m (n * n) reals1 reals1 (omega (arith, most, h.placed.laid))
      (record { each = key_there v at m words1 reals1 all.put; kept = outside_none nan _ _ reals1 })
      (λ k l. key_below s (checked_readable s h.placed.checked) k (omega (arith, l, counted))) exact

  module _ (x : List ℕ) (sorted : Sorted (edge_keys at reals1) m (edge_order at words1) x) (same : length x ≡ length (edge_order at words1)) where
    abbrev words2 : List ℕ
    words2 = put_mid at.sorted (at.chain - at.sorted) words1 x

    inside : at.chain ≤ length words1
    inside = omega (arith, h.placed.laid, h.words_room, all.words_kept.long)

    long : length x ≡ at.chain - at.sorted
    long = same ∙ part_length at.sorted at.chain words1 inside

    order_put : Outside 0 at.sorted at.chain words1 words2
    order_put = outside_put 0 at.sorted at.chain words1 x (omega (arith, h.placed.laid)) inside long

    words_kept : Outside 0 at.items at.chain words words2
    words_kept =
        outside_then 0 _ _ words words1 words2 (outside_wide 0 _ _ _ _ words words1 (omega arith) (omega (arith, h.placed.laid)) all.words_kept)
        (outside_wide 0 _ _ _ _ words1 words2 (omega (arith, h.placed.laid)) (omega arith) order_put)

    order_is : edge_order at words2 ≡ x
    order_is = part_put at.sorted at.chain words1 x (omega (arith, inside, h.placed.laid)) long

    pub sorted_put : at.segments ≡ true → SortedPut s at words words2 reals reals1 m
    sorted_put on =
        record {
          count = counted;
          few = most;
          sorted = record {
            standing = still_standing s at words words2 reals reals1 at.chain h (omega (arith, h.placed.laid)) words_kept all.reals_kept;
            edged = on;
            ranked = still_ranked s at words words2 reals reals1 at.chain h (omega (arith, h.placed.laid)) words_kept all.reals_kept ranked;
            sides = λ k l.
                order_put.below (at.items + k) (omega (arith, l, counted, most, h.placed.laid)) ∙ side_there v at m words1 reals1 all.put k (omega (arith, l, counted));
            keyed = subst (λ (k : ℕ). Keyed (edge_keys at reals1) (item_key v) k (n * n)) counted keyed;
            grouped = subst₂ (λ (k : ℕ) (l : List ℕ). Grouped (item_key v) k (n * n) l) counted (sym order_is) (sorted.grouped (item_key v) (n * n) keyed);
            packed = λ j l. absurd (omega (arith, l));
            boxed = λ b j l. absurd (omega (arith, l));
          };
          words_kept = words_kept;
          reals_kept = all.reals_kept;
        }
