-- The search for corners, segment by segment, and their sort.
use mathlib.Core.Path.{◌≡◌, refl, sym, ap, ◌∙◌, subst, subst₂}
use mathlib.Core.Bool.{Bool, true, false, cond}
use mathlib.Core.Logic.{◌⊎◌, inl, inr}
use mathlib.Core.List.{List, [], ◌∷◌, ◌++◌, append-nil}
use Prim.Native.Nat.{ℕ, zero, suc, ◌+◌, ◌-◌, ◌*◌, ◌≤◌, ◌<◌}
use native.Mathlib.Numerals.{add-one}
use native.Mathlib.Omega.{arith}
use lib.ListN.{length, get_or, set, length-append, get_or-append}
use lib.Seq.{get_or-append-add, get_or-set_same, get_or-set_other}
use lib.Ieee.{Float, nan}
use borrow.Rule.Slice.PartMut.{put_mid}
use Rattle.num_float.proofs.Tests.{lt_or_ge}
use Rattle.list_laws.specs.Region.{Outside}
use Rattle.list_laws.proofs.Regions.{part_length, part_put}
use Rattle.list_laws.proofs.Outside.{outside_none, outside_then, outside_wide, outside_set, outside_put}
use Rattle.list_groups.specs.Groups.{passing}
use Rattle.list_groups.specs.Work.{WholeIs, KeysPut, Sorted, pair_key}
use Rattle.file_part.specs.Layout.{vertex_count_of}
use Rattle.file_part.specs.Part.{Part, part_of}
use Rattle.file_part.proofs.PartLaws.{part_vertices}
use Rattle.solid_faces.specs.Faces.{faces_of}
use Rattle.solid_faces.proofs.BodyLaws.{checked_readable, checked_faces}
use Rattle.solid_edges.specs.Edges.{is_edge_of}
use Rattle.solid_edges.proofs.ScanLaws.{face_below}
use Rattle.solid_edges.proofs.EdgeLaws.{beyond_below}
use Rattle.scratch.specs.declared.regions.Regions.{Regions}
use Rattle.scratch.specs.Regions.{Laid}
use Rattle.scratch.specs.Standing.{Standing}
use Rattle.scratch.proofs.StandingLaws.{placed_vertices}
use Rattle.solid_ranks.specs.Ranks.{rank_of}
use Rattle.solid_ranks.specs.Kept.{Ranked}
use Rattle.solid_tours.proofs.PutLaws.{still_standing, still_ranked}
use Rattle.solid_pairs.specs.declared.FacePair.{FacePair}
use Rattle.solid_pairs.specs.Pairs.{lower, higher}
use Rattle.solid_pairs.specs.Work.{PairIs, low_rank, high_rank, item_key, PairsSorted}
use Rattle.solid_pairs.proofs.PairLaws.{pairs_sorted}
use Rattle.num_float.proofs.Tests.{and_left}
use Rattle.std.proofs.Common.{Option, Some, None}
use Rattle.rule_corners.specs.declared.segment.Between.{Between}
use Rattle.rule_corners.specs.Corners.{is_corner, corner_sides, corner_count, corner_side, near_face, far_face}
use Rattle.rule_corners.specs.Work.{corner_keys, corner_order, CornersPut, FoundIs, segment_key, CornersTo, CornerPut, AllPut}

-- ---- one segment more
passing_more : (test : ℕ → Bool) (s : ℕ) → test s ≡ true → passing test (s + 1) ≡ passing test s ++ (s ∷ [])
unfolding passing
passing_more test s h = rw (add-one, h)

passing_same : (test : ℕ → Bool) (s : ℕ) → test s ≡ false → passing test (s + 1) ≡ passing test s
unfolding passing
passing_same test s h = rw (add-one, h) (append-nil (passing test s))

passing_few : (test : ℕ → Bool) (n : ℕ) → length (passing test n) ≤ n
unfolding passing
passing_few test zero = omega arith
passing_few test (suc n) = go (test n) (passing_few test n)
  where
    go : (b : Bool) → length (passing test n) ≤ n → length (passing test n ++ cond b (n ∷ []) []) ≤ suc n
    go true h = omega (arith, length-append (passing test n) (n ∷ []), h)
    go false h = omega (arith, length-append (passing test n) [], h)

-- there are no more corners than segments
pub corner_most : (t : Part) → corner_count t ≤ t.vertices
unfolding corner_count corner_sides
corner_most t = passing_few (is_corner t) t.vertices

-- a corner is an edge
pub corner_edge : (t : Part) (s : ℕ) → is_corner t s ≡ true → is_edge_of t s ≡ true
unfolding is_corner
corner_edge t s h = and_left (is_edge_of t s) _ h

pub corners_none : (t : Part) (at : Regions) (words : List ℕ) (reals : List Float) → CornersTo t at 0 0 words reals
unfolding passing
corners_none t at words reals = record { count = refl; sides = λ k h. absurd (omega (arith, h)); keys = λ k h. absurd (omega (arith, h)) }

module _ (t : Part) (at : Regions) (s m : ℕ) (words : List ℕ) (reals : List Float) where
  -- no corner
  pub put_none : FoundIs t s None → CornerPut t at s m words words reals reals m
  unfolding FoundIs
  put_none h =
      record {
        more = λ c.
            record {
              count = c.count ∙ ap length (sym (passing_same (is_corner t) s h));
              sides = λ k l. c.sides k l ∙ ap (λ (z : List ℕ). get_or z k 0) (sym (passing_same (is_corner t) s h));
              keys = λ k l. subst (λ (z : List ℕ). WholeIs (segment_key t (get_or z k 0)) (get_or reals (at.directions + k) nan)) (sym (passing_same (is_corner t) s h)) (c.keys k l);
            };
        few = omega arith;
        words_kept = outside_none 0 _ _ words;
        reals_kept = outside_none nan _ _ reals;
      }

  -- one
  module _ (b : Between) (r : FacePair) (h : FoundIs t s (Some b)) (pair : PairIs t b.near b.far r) (laid : Laid at) (words_room : at.words ≤ length words)
      (reals_room : at.reals ≤ length reals) (low : s < at.vertices) (before : m ≤ s) where
    abbrev words' : List ℕ
    words' = set words (at.items + m) s

    abbrev reals' : List Float
    reals' = set reals (at.directions + m) r.key

    abbrev was : List ℕ
    was = passing (is_corner t) s

    is_corner_lem : is_corner t s ≡ true
    unfolding FoundIs
    is_corner_lem = h.0

    key_is : WholeIs (segment_key t s) r.key
    unfolding FoundIs segment_key
    key_is =
        subst₂ (λ (a b : ℕ). WholeIs (rank_key a b) r.key) h.1 h.2 pair.key
      where
        rank_key : ℕ → ℕ → ℕ
        rank_key a b = rank_of t (lower t a b) * faces_of t + rank_of t (higher t a b)

    here : m ≡ length was → get_or (was ++ (s ∷ [])) m 0 ≡ s
    here e = ap (λ (k : ℕ). get_or (was ++ (s ∷ [])) k 0) (e ∙ omega arith) ∙ get_or-append-add was (s ∷ []) 0 0

    grown : CornersTo t at s m words reals → CornersTo t at (s + 1) (m + 1) words' reals'
    grown c =
        record {
          count = ap (λ (k : ℕ). k + 1) c.count ∙ sym (length-append was (s ∷ [])) ∙ ap length (sym next);
          sides = λ k l. side k l (lt_or_ge k m);
          keys = λ k l. key k l (lt_or_ge k m);
        }
      where
        next : passing (is_corner t) (s + 1) ≡ was ++ (s ∷ [])
        next = passing_more (is_corner t) s is_corner_lem

        old : (k : ℕ) → k < m → get_or (passing (is_corner t) (s + 1)) k 0 ≡ get_or was k 0
        old k l = ap (λ (z : List ℕ). get_or z k 0) next ∙ get_or-append was (s ∷ []) 0 k (omega (arith, l, c.count))

        new : get_or (passing (is_corner t) (s + 1)) m 0 ≡ s
        new = ap (λ (z : List ℕ). get_or z m 0) next ∙ here c.count

        side : (k : ℕ) → k < m + 1 → (k < m) ⊎ (m ≤ k) → get_or words' (at.items + k) 0 ≡ get_or (passing (is_corner t) (s + 1)) k 0
        side k l (inl b) = get_or-set_other words (at.items + m) (at.items + k) s 0 (λ e. omega (arith, e, b)) ∙ c.sides k b ∙ sym (old k b)
        side k l (inr b) =
            let same : m ≡ k = omega (arith, l, b) in
            subst (λ (j : ℕ). get_or words' (at.items + j) 0 ≡ get_or (passing (is_corner t) (s + 1)) j 0) same
            (get_or-set_same words (at.items + m) s 0 (omega (arith, before, low, laid, words_room)) ∙ sym new)

        key : (k : ℕ) → k < m + 1 → (k < m) ⊎ (m ≤ k) → WholeIs (segment_key t (get_or (passing (is_corner t) (s + 1)) k 0)) (get_or reals' (at.directions + k) nan)
        key k l (inl b) =
            subst₂ (λ (z : ℕ) (x : Float). WholeIs (segment_key t z) x) (sym (old k b))
            (sym (get_or-set_other reals (at.directions + m) (at.directions + k) r.key nan (λ e. omega (arith, e, b)))) (c.keys k b)
        key k l (inr b) =
            let same : m ≡ k = omega (arith, l, b) in
            subst (λ (j : ℕ). WholeIs (segment_key t (get_or (passing (is_corner t) (s + 1)) j 0)) (get_or reals' (at.directions + j) nan)) same
            (subst₂ (λ (z : ℕ) (x : Float). WholeIs (segment_key t z) x) (sym new)
            (sym (get_or-set_same reals (at.directions + m) r.key nan (omega (arith, before, low, laid, reals_room)))) key_is)

    pub put_one : CornerPut t at s m words words' reals reals' (m + 1)
    put_one =
        record {
          more = grown;
          few = omega arith;
          words_kept = outside_set 0 at.items at.sorted words (at.items + m) s (omega arith) (omega (arith, before, low, laid));
          reals_kept = outside_set nan at.directions at.free reals (at.directions + m) r.key (omega arith) (omega (arith, before, low, laid));
        }

-- ---- all segments
pub all_put : (s : List ℕ) (at : Regions) (words words' : List ℕ) (reals reals' : List Float) (i m : ℕ) → Standing s at words reals → i ≤ at.vertices → at.vertices ≤ i → m ≤ i →
    CornersTo (part_of s) at i m words' reals' → Outside 0 at.items at.sorted words words' → Outside nan at.directions at.free reals reals' →
    AllPut s at words words' reals reals' m
all_put s at words words' reals reals' i m h a b few put w r =
    let all : i ≡ (part_of s).vertices = omega (arith, a, b, placed_vertices s at h.placed) in
    record { put = subst (λ (k : ℕ). CornersTo (part_of s) at k m words' reals') all put; few = omega (arith, a, few); words_kept = w; reals_kept = r }

-- ---- the k-th corner
-- what passes is below and passes
passes : (test : ℕ → Bool) (n k : ℕ) → k < length (passing test n) → (get_or (passing test n) k 0 < n) × (test (get_or (passing test n) k 0) ≡ true)
unfolding passing
passes test zero k l = absurd (omega (arith, l))
passes test (suc n) k l = go (test n) refl (passes test n k) (lt_or_ge k (length (passing test n)))
  where
    go : (b : Bool) → test n ≡ b →
        (k < length (passing test n) → (get_or (passing test n) k 0 < n) × (test (get_or (passing test n) k 0) ≡ true)) → (k < length (passing test n)) ⊎ (length (passing test n) ≤ k) →
        (get_or (passing test n ++ cond (test n) (n ∷ []) []) k 0 < suc n) × (test (get_or (passing test n ++ cond (test n) (n ∷ []) []) k 0) ≡ true)
    go b e before (inl low) =
        let was = before low in
        let same = get_or-append (passing test n) (cond (test n) (n ∷ []) []) 0 k low in
        (omega (arith, same, was.0), ap test same ∙ was.1)
    go true e before (inr high) =
        let one : length (passing test n ++ cond (test n) (n ∷ []) []) ≡ length (passing test n) + 1
        = ap (λ (c : Bool). length (passing test n ++ cond c (n ∷ []) [])) e ∙ length-append (passing test n) (n ∷ []) in
        let last : length (passing test n) + 0 ≡ k = omega (arith, l, one, high) in
        let same : get_or (passing test n ++ cond (test n) (n ∷ []) []) k 0 ≡ n
        = ap (λ (c : Bool). get_or (passing test n ++ cond c (n ∷ []) []) k 0) e
        ∙ ap (λ (j : ℕ). get_or (passing test n ++ (n ∷ [])) j 0) (sym last) ∙ get_or-append-add (passing test n) (n ∷ []) 0 0 in
        (omega (arith, same), ap test same ∙ e)
    go false e before (inr high) =
        let none : length (passing test n ++ cond (test n) (n ∷ []) []) ≡ length (passing test n)
        = ap (λ (c : Bool). length (passing test n ++ cond c (n ∷ []) [])) e ∙ ap length (append-nil (passing test n)) in
        absurd (omega (arith, l, none, high))

pub corner_side_lem : (t : Part) (k : ℕ) → k < corner_count t → (corner_side t k < t.vertices) × (is_corner t (corner_side t k) ≡ true)
unfolding corner_count corner_side corner_sides
corner_side_lem t k l = passes (is_corner t) t.vertices k l

-- its faces
module _ (s : List ℕ) (at : Regions) (words : List ℕ) (reals : List Float) (h : Standing s at words reals) where
  abbrev t : Part
  t = part_of s

  pub corner_faces : (k : ℕ) → k < corner_count t → (near_face t k < faces_of t) × (far_face t k < faces_of t)
  unfolding near_face far_face
  corner_faces k l =
      let c = corner_side_lem t k l in
      let readable = checked_readable s h.placed.checked in
      let low : corner_side t k < vertex_count_of s = omega (arith, c.0, part_vertices s) in
      (face_below s readable (corner_side t k) low, beyond_below s readable (corner_side t k) low (corner_edge t (corner_side t k) c.1))

-- ---- the faces of a corner that is found
pub found_is : (t : Part) (s : ℕ) (b : Between) (r : Option Between) → FoundIs t s r → r ≡ Some b → FoundIs t s (Some b)
found_is t s b r h e = subst (FoundIs t s) e h

pub found_none : (t : Part) (s : ℕ) (r : Option Between) → FoundIs t s r → r ≡ None → FoundIs t s None
found_none t s r h e = subst (FoundIs t s) e h

pub found_below : (s : List ℕ) (at : Regions) (words : List ℕ) (reals : List Float) → Standing s at words reals → (n i : ℕ) (b : Between) → n ≡ faces_of (part_of s) →
    i < at.vertices → FoundIs (part_of s) i (Some b) → (b.near < n) × (b.far < n)
unfolding FoundIs
found_below s at words reals h n i b count low found =
    let readable = checked_readable s h.placed.checked in
    let below : i < vertex_count_of s = omega (arith, low, h.placed.vertices) in (
      omega (arith, count, found.1, face_below s readable i below),
      omega (arith, count, found.2, beyond_below s readable i below (corner_edge (part_of s) i found.0)),
    )

-- ---- the sort
module _ (s : List ℕ) (at : Regions) (words words1 : List ℕ) (reals reals1 : List Float) (m : ℕ) (h : Standing s at words reals) (ranked : Ranked (part_of s) at words)
    (all : AllPut s at words words1 reals reals1 m) where
  abbrev u : Part
  u = part_of s

  pub count_is : m ≡ corner_count u
  unfolding corner_count corner_sides
  count_is = all.put.count

  pub sort_room : (2 * m ≤ length (corner_order at words1)) × ((m ≤ length (corner_keys at reals1)) × (m ≤ 16384))
  sort_room =
      let laid = h.placed.laid in (
        omega (arith, part_length at.sorted at.chain words1 (omega (arith, laid, h.words_room, all.words_kept.long)), all.few, laid),
        (omega (arith, part_length at.directions at.free reals1 (omega (arith, laid, h.reals_room, all.reals_kept.long)), all.few, laid), omega (arith, all.few, laid)),
      )

  module _ (x : List ℕ) (sorted : Sorted (corner_keys at reals1) m (corner_order at words1) x) (same : length x ≡ length (corner_order at words1)) where
    abbrev words2 : List ℕ
    words2 = put_mid at.sorted (at.chain - at.sorted) words1 x

    inside : at.chain ≤ length words1
    inside = omega (arith, h.placed.laid, h.words_room, all.words_kept.long)

    long : length x ≡ at.chain - at.sorted
    long = same ∙ part_length at.sorted at.chain words1 inside

    order_put : Outside 0 at.sorted at.chain words1 words2
    order_put = outside_put 0 at.sorted at.chain words1 x (omega (arith, h.placed.laid)) inside long

    words_kept : Outside 0 at.items at.chain words words2
    words_kept =
        outside_then 0 _ _ words words1 words2 (outside_wide 0 _ _ _ _ words words1 (omega arith) (omega (arith, h.placed.laid)) all.words_kept)
        (outside_wide 0 _ _ _ _ words1 words2 (omega (arith, h.placed.laid)) (omega arith) order_put)

    order_is : corner_order at words2 ≡ x
    order_is = part_put at.sorted at.chain words1 x (omega (arith, inside, h.placed.laid)) long

    keys_put : KeysPut (item_key u (near_face u) (far_face u)) at.directions m reals1 reals1
    unfolding item_key pair_key low_rank high_rank near_face far_face corner_side corner_sides segment_key
    keys_put = record { each = all.put.keys; kept = outside_none nan _ _ reals1 }

    in_order : PairsSorted u (near_face u) (far_face u) m (corner_keys at reals1) x
    in_order =
        pairs_sorted u (near_face u) (far_face u) m (λ k l. corner_faces s at words reals h k (omega (arith, l, count_is))) (checked_faces s h.placed.checked) at.directions at.free
        reals1 reals1 (corner_order at words1) x (omega (arith, all.few, h.placed.laid)) keys_put sorted

    side_there : (k : ℕ) → k < corner_count u → get_or words2 (at.items + k) 0 ≡ corner_side u k
    unfolding corner_side corner_sides
    side_there k l =
        order_put.below (at.items + k) (omega (arith, l, count_is, all.few, h.placed.laid)) ∙ all.put.sides k (omega (arith, l, count_is))

    pub corners_put : at.segments ≡ true → CornersPut s at words words2 reals reals1 m
    corners_put on =
        record {
          count = count_is;
          ordered = record {
            standing = still_standing s at words words2 reals reals1 at.chain h (omega (arith, h.placed.laid)) words_kept all.reals_kept;
            edged = on;
            ranked = still_ranked s at words words2 reals reals1 at.chain h (omega (arith, h.placed.laid)) words_kept all.reals_kept ranked;
            sides = side_there;
            sorted = subst₂ (λ (k : ℕ) (l : List ℕ). PairsSorted u (near_face u) (far_face u) k (corner_keys at reals1) l) count_is (sym order_is) in_order;
          };
          words_kept = words_kept;
          reals_kept = all.reals_kept;
        }
