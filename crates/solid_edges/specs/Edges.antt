-- The edges between faces: `model_edges` of solid.rs and `Part::new` of dfm.rs. Definitions only.
-- An edge is a shared segment whose two polygons are of different faces. It has the number of the first of its two sides, so rising
-- numbers are the order of the shared segments. (`model_edges` also keeps creases inside one face; `Part::new` leaves them out again.)
use Rattle.std.specs.Prelude.{Bool, not, ◌&&◌, ◌||◌, cond, ℕ, ◌+◌, ◌-◌, eqb, ltb, leb}
use Rattle.file_part.specs.Part.{Part}
use Rattle.solid_keys.specs.Pair.{pair_of}
use Rattle.solid_segments.specs.Sides.{owner_of, same_side}
use Rattle.solid_faces.specs.Faces.{face_number}

-- the pair of side s: u + 1 where s and then u, and no third side, have its key; see `pair_of` for the other sides
unfoldable pub pair_in : Part → ℕ → ℕ
pair_in t s = pair_of (same_side t) t.vertices s

-- of a pair q of side s among n sides: exactly two sides have the key
unfoldable pub is_two : ℕ → ℕ → ℕ → Bool
is_two n s q = ltb (s + 1) q && leb q n

-- the face of side s
unfoldable pub face_of_side : Part → ℕ → ℕ
face_of_side t s = face_number t (owner_of t s)

-- the face at the other side of segment s
unfoldable pub face_beyond : Part → ℕ → ℕ
face_beyond t s = face_of_side t (pair_in t s - 1)

-- side s is an edge: it is the first of two sides, of different faces
unfoldable pub is_edge_of : Part → ℕ → Bool
is_edge_of t s = is_two t.vertices s (pair_in t s) && not (eqb (face_of_side t s) (face_beyond t s))

-- an edge of face f
unfoldable pub is_edge_of_word : Part → ℕ → ℕ → Bool
is_edge_of_word t f s = is_edge_of t s && (eqb (face_of_side t s) f || eqb (face_beyond t s) f)

-- the face that an edge of face f leads to
unfoldable pub other_face : Part → ℕ → ℕ → ℕ
other_face t f s = cond (eqb (face_of_side t s) f) (face_beyond t s) (face_of_side t s)

-- an edge between faces f and g
unfoldable pub is_between : Part → ℕ → ℕ → ℕ → Bool
is_between t f g s = is_edge_of_word t f s && eqb (other_face t f s) g
