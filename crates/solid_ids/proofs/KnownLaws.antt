-- What the lent slice of an accepted file's faces holds, in the words of the functions that read it.
use mathlib.Core.Path.{◌≡◌, sym, ap, ◌∙◌}
use mathlib.Core.List.{List}
use Prim.Native.Nat.{ℕ, ◌+◌, ◌≤◌, ◌<◌}
use native.Mathlib.Omega.{arith}
use lib.ListN.{length, get_or}
use Rattle.file_part.specs.Layout.{vertex_count_of, polygon_count_of, entry_at}
use Rattle.file_part.specs.declared.read.FaceId.{FaceId}
use Rattle.file_part.specs.Part.{face_at, part_of}
use Rattle.file_ok.specs.Work.{Readable}
use Rattle.file_part.proofs.PartLaws.{part_polygons, part_face}
use Rattle.file_ok.proofs.ReadableLaws.{readable_length, readable_counts}
use Rattle.solid_faces.specs.Faces.{faces_of, first_polygon}
use Rattle.solid_faces.proofs.BodyLaws.{checked_readable, checked_faces}
use Rattle.solid_ids.specs.Ids.{id_of}
use Rattle.solid_ids.specs.Work.{KnownFaces}
use Rattle.solid_ids.proofs.IdLaws.{first_below}

pub known_readable : {file faces : List ℕ} → KnownFaces file faces → Readable file
known_readable {file} h = checked_readable file h.checked

pub trailer : {file faces : List ℕ} → KnownFaces file faces → 16 ≤ length file
trailer {file} h = omega (arith, readable_length file (known_readable h))

pub few_faces : {file faces : List ℕ} → KnownFaces file faces → faces_of (part_of file) ≤ 1024
few_faces {file} h = checked_faces file h.checked

-- ---- the first polygon of a face
module _ {file faces : List ℕ} (known : KnownFaces file faces) (m g : ℕ) (count : m ≡ polygon_count_of file) (low : g < faces_of (part_of file)) where
  pub first_room : m + g < length faces
  first_room = omega (arith, count, low, known.long, part_polygons file, few_faces known)

  pub first_fits : (m ≤ 4096) × (g < 1024)
  first_fits = (omega (arith, count, (readable_counts file (known_readable known)).1), omega (arith, low, few_faces known))

  first_is : (r : ℕ) → r ≡ get_or faces (m + g) 0 → r ≡ first_polygon (part_of file) g
  first_is r e = e ∙ ap (λ (k : ℕ). get_or faces (k + g) 0) (count ∙ sym (part_polygons file)) ∙ known.known.firsts g low

  -- where its entry stands
  pub first_entry : (v r : ℕ) → v ≡ vertex_count_of file → r ≡ get_or faces (m + g) 0 → (v ≤ 16384) × (r ≤ 4096) × (entry_at v r + 80 ≤ length file)
  first_entry v r a e =
      let few = readable_counts file (known_readable known) in
      let below : r < polygon_count_of file = omega (arith, first_is r e, first_below (part_of file) g low, part_polygons file) in
      (omega (arith, a, few.0), omega (arith, below, few.1), omega (arith, a, below, readable_length file (known_readable known)))

  pub id_is : (v r at : ℕ) (x : FaceId) → v ≡ vertex_count_of file → r ≡ get_or faces (m + g) 0 → at ≡ entry_at v r → x ≡ face_at file at → x ≡ id_of (part_of file) g
  unfolding id_of
  id_is v r at x a e i q =
      q ∙ ap (face_at file) (i ∙ ap (λ (k : ℕ). entry_at k r) a) ∙ ap (λ (k : ℕ). face_at file (entry_at (vertex_count_of file) k)) (first_is r e)
      ∙ sym (part_face file (first_polygon (part_of file) g))
