-- What private functions leave on the way; a reader may pass over it. Definitions only.
use Rattle.std.specs.Prelude.{◌≡◌, List, ℕ, ◌+◌, ◌*◌, Float}
use Rattle.list_groups.specs.Work.{with_key, pair_key, WholeIs, Keyed, Grouped, Walked, of_items}
use Rattle.file_part.specs.Part.{Part}
use Rattle.solid_faces.specs.Faces.{faces_of}
use Rattle.solid_ranks.specs.Ranks.{rank_of, face_of_rank}
use Rattle.solid_pairs.specs.declared.FacePair.{FacePair}
use Rattle.solid_pairs.specs.Pairs.{lower, higher}

-- ---- items sorted by their pairs of faces, and a walk over the pairs
-- the faces f and g as a pair, with the key rank * n + rank
pub record PairIs (t : Part) (f g : ℕ) (r : FacePair) : Type 0 where
  pub first : r.first ≡ lower t f g
  pub second : r.second ≡ higher t f g
  pub key : WholeIs (rank_of t (lower t f g) * faces_of t + rank_of t (higher t f g)) r.key

-- the ranks of an item's faces ..
unfoldable pub low_rank : Part → (ℕ → ℕ) → (ℕ → ℕ) → ℕ → ℕ
low_rank t one other s = rank_of t (lower t (one s) (other s))

unfoldable pub high_rank : Part → (ℕ → ℕ) → (ℕ → ℕ) → ℕ → ℕ
high_rank t one other s = rank_of t (higher t (one s) (other s))

-- .. and the key that it is sorted by
unfoldable pub item_key : Part → (ℕ → ℕ) → (ℕ → ℕ) → ℕ → ℕ
item_key t one other = pair_key (faces_of t) (low_rank t one other) (high_rank t one other)

-- the keys of m items, and the items by key, in their order where keys agree
pub record PairsSorted (t : Part) (one other : ℕ → ℕ) (m : ℕ) (keys : List Float) (order : List ℕ) : Type 0 where
  pub keyed : Keyed keys (item_key t one other) m (faces_of t * faces_of t)
  pub grouped : Grouped (item_key t one other) m (faces_of t * faces_of t) order

-- a walk at place i of the sorted items, where the items of a pair start, has met `out`
unfoldable pub PairsTo : {X : Type 0} → Part → (ℕ → ℕ) → (ℕ → ℕ) → ℕ → (ℕ → ℕ → List ℕ → List X) → ℕ → List X → Type 0
PairsTo t one other m h i out =
    Walked (item_key t one other) m (faces_of t * faces_of t)
    (λ k. of_items (low_rank t one other) (high_rank t one other) (λ a b. h (face_of_rank t a) (face_of_rank t b)) (with_key (item_key t one other) k m)) i out
