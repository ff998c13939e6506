-- Items 0, 1, .. below m, each between two faces, by their pairs of faces: what the Rust's maps by two faces hold. Definitions only.
use Rattle.std.specs.Prelude.{cond, List, ℕ}
use Rattle.list_groups.specs.Groups.{over_pairs, unless_empty, items_of}
use Rattle.file_part.specs.Part.{Part}
use Rattle.solid_faces.specs.Faces.{faces_of}
use Rattle.solid_ids.specs.Ids.{face_before}
use Rattle.solid_ranks.specs.Ranks.{face_of_rank}

-- `if a <= b { (a, b) } else { (b, a) }`, by ids: the face of the lower id ..
unfoldable pub lower : Part → ℕ → ℕ → ℕ
lower t f g = cond (face_before t g f) g f

-- .. and the other
unfoldable pub higher : Part → ℕ → ℕ → ℕ
higher t f g = cond (face_before t g f) f g

-- the items between faces f and g, of which f is the lower, in their order; item s is between the faces `one s` and `other s`
unfoldable pub items_between : Part → (ℕ → ℕ) → (ℕ → ℕ) → ℕ → ℕ → ℕ → List ℕ
items_between t one other m f g = items_of (λ s. lower t (one s) (other s)) (λ s. higher t (one s) (other s)) m f g

-- every pair of faces is tried, by rising ids; what h makes of each pair that some item has, and of its items
unfoldable pub over_face_pairs : {X : Type 0} → Part → (ℕ → ℕ) → (ℕ → ℕ) → ℕ → (ℕ → ℕ → List ℕ → List X) → List X
over_face_pairs t one other m h =
    over_pairs
    (λ a b. unless_empty (items_between t one other m (face_of_rank t a) (face_of_rank t b))
    (h (face_of_rank t a) (face_of_rank t b) (items_between t one other m (face_of_rank t a) (face_of_rank t b))))
    (faces_of t)
