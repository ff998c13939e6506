-- Pairs of faces by ranks: what a walk over the sorted items meets is `over_face_pairs`.
use mathlib.Core.Path.{◌≡◌, refl, sym, ap, ◌∙◌, subst}
use mathlib.Core.Bool.{Bool, ◌&&◌}
use mathlib.Core.List.{List, [], ◌++◌, Memᴰ}
use Prim.Native.Nat.{ℕ, ◌+◌, ◌-◌, ◌*◌, ◌≤◌, ◌<◌}
use native.Mathlib.Nat.{mul-le-mul, le_trans}
use native.Mathlib.Omega.{arith}
use lib.Dec.{eqb, lit≤}
use lib.Ieee.{Float}
use lib.ListN.{get_or}
use borrow.Author.Tests.{eq-eqb, eqb-true}
use Rattle.num_float.proofs.Tests.{same_test, cond_has}
use Rattle.list_laws.specs.Region.{part}
use Rattle.list_laws.proofs.Regions.{part_length, part_place}
use Rattle.list_groups.specs.Groups.{joined, over_pairs, unless_empty, items_of}
use Rattle.list_groups.specs.Work.{with_key, over_groups, pair_key, WholeIs, KeysPut, Keyed, Sorted, RunEnds, of_items}
use Rattle.list_groups.proofs.KeyLaws.{keys_keyed}
use Rattle.list_groups.proofs.Strict.{mem_place}
use Rattle.list_groups.proofs.Flat.{joined_same}
use Rattle.list_groups.proofs.Walks.{walked_none, place_item}
use Rattle.list_groups.proofs.Pairs.{passing_same, key_below, walked_pair, walked_groups}
use Rattle.file_part.specs.Part.{Part}
use Rattle.solid_faces.specs.Faces.{faces_of}
use Rattle.solid_ids.specs.Ids.{face_before}
use Rattle.solid_ranks.specs.Ranks.{rank_of, face_of_rank}
use Rattle.solid_ranks.proofs.RankLaws.{rank_below, face_of_rank_lem, rank_of_face}
use Rattle.solid_pairs.specs.declared.FacePair.{FacePair}
use Rattle.solid_pairs.specs.Pairs.{lower, higher, items_between, over_face_pairs}
use Rattle.solid_pairs.specs.Work.{PairIs, low_rank, high_rank, item_key, PairsSorted, PairsTo}

-- ---- the faces of a pair
pub lower_below : (t : Part) (f g : ℕ) → f < faces_of t → g < faces_of t → lower t f g < faces_of t
unfolding lower
lower_below t f g l k = cond_has (λ x. x < faces_of t) (face_before t g f) k l

pub higher_below : (t : Part) (f g : ℕ) → f < faces_of t → g < faces_of t → higher t f g < faces_of t
unfolding higher
higher_below t f g l k = cond_has (λ x. x < faces_of t) (face_before t g f) l k

-- the key that `pair_of` gives of an item's faces is the item's
pub pair_key_lem : (t : Part) (one other : ℕ → ℕ) (s : ℕ) (r : FacePair) → PairIs t (one s) (other s) r → WholeIs (item_key t one other s) r.key
unfolding item_key pair_key low_rank high_rank
pair_key_lem t one other s r is = is.key

-- ---- no item yet
pub pairs_start : {X : Type 0} (t : Part) (one other : ℕ → ℕ) (m : ℕ) (h : ℕ → ℕ → List ℕ → List X) → PairsTo t one other m h 0 []
unfolding PairsTo
pairs_start t one other m h =
    walked_none (item_key t one other) m (faces_of t * faces_of t)
    (λ k. of_items (low_rank t one other) (high_rank t one other) (λ a b. h (face_of_rank t a) (face_of_rank t b)) (with_key (item_key t one other) k m))

-- an item by its place
pub item_below : (t : Part) (one other : ℕ → ℕ) (m : ℕ) (keys : List Float) (order : List ℕ) → PairsSorted t one other m keys order → (j : ℕ) → j < m → get_or order j 0 < m
item_below t one other m keys order sorted j h = (place_item (item_key t one other) m (faces_of t * faces_of t) order sorted.grouped j h).0

-- the items of a group
pub group_below : (t : Part) (one other : ℕ → ℕ) (m : ℕ) (keys : List Float) (order : List ℕ) → PairsSorted t one other m keys order → (i e : ℕ) → e ≤ m →
    (z : ℕ) → Memᴰ z (part i e order) → z < m
group_below t one other m keys order sorted i e h z mem =
    let w = mem_place (part i e order) mem in
    let l : w.0 < e - i = omega (arith, w.1, part_length i e order (omega (arith, h, sorted.grouped.inside))) in
    subst (λ (x : ℕ). x < m) (sym (part_place i e order 0 w.0 l) ∙ w.2) (item_below t one other m keys order sorted (i + w.0) (omega (arith, l, h)))

-- ---- items whose faces are faces of the part
module _ (t : Part) (one other : ℕ → ℕ) (m : ℕ) (inside : (s : ℕ) → s < m → (one s < faces_of t) × (other s < faces_of t)) where
  abbrev n : ℕ
  n = faces_of t

  abbrev low : ℕ → ℕ
  low s = lower t (one s) (other s)

  abbrev high : ℕ → ℕ
  high s = higher t (one s) (other s)

  low_below : (s : ℕ) → s < m → low s < n
  low_below s h = lower_below t (one s) (other s) (inside s h).0 (inside s h).1

  high_below : (s : ℕ) → s < m → high s < n
  high_below s h = higher_below t (one s) (other s) (inside s h).0 (inside s h).1

  low_rank_below : (s : ℕ) → s < m → low_rank t one other s < n
  unfolding low_rank
  low_rank_below s h = rank_below t (low s) (low_below s h)

  high_rank_below : (s : ℕ) → s < m → high_rank t one other s < n
  unfolding high_rank
  high_rank_below s h = rank_below t (high s) (high_below s h)

  item_key_below : (s : ℕ) → s < m → item_key t one other s < n * n
  unfolding item_key
  item_key_below s h = key_below n (low_rank t one other) (high_rank t one other) m low_rank_below high_rank_below s h

  -- what a sort gives of the keys that are put from `at` on, and lent up to `end`
  pub pairs_sorted : faces_of t ≤ 1024 → (at end : ℕ) (old new : List Float) (before order : List ℕ) → at + m ≤ end → KeysPut (item_key t one other) at m old new →
      Sorted (part at end new) m before order → PairsSorted t one other m (part at end new) order
  pairs_sorted few at end old new before order fits keys sorted =
      let all : n * n ≤ 1024 * 1024 = mul-le-mul few few in
      let keyed : Keyed (part at end new) (item_key t one other) m (n * n) =
      keys_keyed (item_key t one other) at end m (n * n) old new fits keys item_key_below (le_trans all (lit≤ tt)) in
      record { keyed = keyed; grouped = sorted.grouped (item_key t one other) (n * n) keyed }

  -- ---- the definition by ranks
  rank_test : (f r : ℕ) → f < n → eqb f (face_of_rank t r) ≡ eqb (rank_of t f) r
  rank_test f r l =
      same_test (eqb f (face_of_rank t r)) (eqb (rank_of t f) r)
      (λ e.
      let is : f ≡ face_of_rank t r = eqb-true f (face_of_rank t r) e in
      eq-eqb (rank_of t f) r (ap (rank_of t) is ∙ rank_of_face t r (omega (arith, is, l))))
      (λ e. eq-eqb f (face_of_rank t r) (sym (face_of_rank_lem t f l) ∙ ap (face_of_rank t) (eqb-true (rank_of t f) r e)))

  same_items : (a b : ℕ) → items_between t one other m (face_of_rank t a) (face_of_rank t b) ≡ items_of (low_rank t one other) (high_rank t one other) m a b
  unfolding items_between items_of low_rank high_rank
  same_items a b =
      passing_same (λ s. eqb (low s) (face_of_rank t a) && eqb (high s) (face_of_rank t b)) (λ s. eqb (rank_of t (low s)) a && eqb (rank_of t (high s)) b) m
      (λ s h.
      ap (λ (x : Bool). x && eqb (high s) (face_of_rank t b)) (rank_test (low s) a (low_below s h))
      ∙ ap (λ (x : Bool). eqb (rank_of t (low s)) a && x) (rank_test (high s) b (high_below s h)))

  module _ {X : Type 0} (h : ℕ → ℕ → List ℕ → List X) where
    abbrev by_rank_lem : ℕ → ℕ → List ℕ → List X
    by_rank_lem a b = h (face_of_rank t a) (face_of_rank t b)

    abbrev of_ranks : ℕ → ℕ → List X
    of_ranks a b = unless_empty (items_of (low_rank t one other) (high_rank t one other) m a b) (by_rank_lem a b (items_of (low_rank t one other) (high_rank t one other) m a b))

    abbrev of_faces : ℕ → ℕ → List X
    of_faces a b =
        unless_empty (items_between t one other m (face_of_rank t a) (face_of_rank t b)) (by_rank_lem a b (items_between t one other m (face_of_rank t a) (face_of_rank t b)))

    pairs_are : over_face_pairs t one other m h ≡ over_groups n (low_rank t one other) (high_rank t one other) m by_rank_lem
    unfolding over_face_pairs over_groups over_pairs
    pairs_are =
        joined_same (λ a. joined (of_faces a) n) (λ a. joined (of_ranks a) n) n
        (λ a k. joined_same (of_faces a) (of_ranks a) n (λ b l. ap (λ (z : List ℕ). unless_empty z (by_rank_lem a b z)) (same_items a b)))

    -- ---- a walk
    faces_of_lem : (z : ℕ) (l : List ℕ) → z < m → by_rank_lem (low_rank t one other z) (high_rank t one other z) l ≡ h (low z) (high z) l
    unfolding low_rank high_rank
    faces_of_lem z l k = rw (face_of_rank_lem t (low z) (low_below z k), face_of_rank_lem t (high z) (high_below z k)) refl

    -- one pair more
    pub next_pair : (keys : List Float) (order : List ℕ) → PairsSorted t one other m keys order → (i e : ℕ) → RunEnds keys order m i e → (out : List X) →
        PairsTo t one other m h i out →
        PairsTo t one other m h e (out ++ h (lower t (one (get_or order i 0)) (other (get_or order i 0))) (higher t (one (get_or order i 0)) (other (get_or order i 0))) (part i e order))
    unfolding PairsTo item_key
    next_pair keys order sorted i e run out w =
        subst (λ (l : List X). PairsTo t one other m h e (out ++ l))
        (faces_of_lem (get_or order i 0) (part i e order) (item_below t one other m keys order sorted i (omega (arith, run.more, run.inside))))
        (walked_pair n (low_rank t one other) (high_rank t one other) m low_rank_below high_rank_below by_rank_lem order sorted.grouped keys sorted.keyed i e run out w)

    -- at the end all pairs
    pub pairs_end : (i : ℕ) (out : List X) → m ≤ i → PairsTo t one other m h i out → out ≡ over_face_pairs t one other m h
    unfolding PairsTo item_key
    pairs_end i out past w =
        walked_groups n (low_rank t one other) (high_rank t one other) m low_rank_below high_rank_below by_rank_lem i out past w ∙ sym pairs_are
