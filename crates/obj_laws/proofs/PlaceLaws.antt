-- What stands at each place of the part file of a text.
use Rattle.std.proofs.Common.{Result, Ok, Err}
use Rattle.std.specs.Bool.{⊤}
use Rattle.std.specs.Result.{result_and}
use mathlib.Core.Path.{◌≡◌, refl, sym, ap, ◌∙◌}
use mathlib.Core.Bool.{Bool, true, false, not, cond}
use mathlib.Core.List.{List, [], ◌∷◌, ◌++◌, append_assoc}
use Prim.Native.Nat.{ℕ, zero, suc, ◌+◌, ◌*◌, ◌≤◌, ◌<◌}
use native.Mathlib.Nat.{add-zero, zero-add}
use native.Mathlib.Omega.{arith}
use lib.Dec.{eqb, ltb}
use lib.ListN.{length, take, drop, get_or, length-append}
use lib.Seq.{drop-append-add, drop-drop, drop-cons, drop_at}
use borrow.Author.Tests.{eqb-true}
use Rattle.refusal.specs.declared.Refusal.{Refusal}
use Rattle.refusal.specs.declared.Refusal.TheVariants.{TooLarge, BadJob, OutputTooShort}
use Rattle.file_part.specs.Layout.{entry_at, size_of}
use Rattle.file_ok.specs.Verdict.{too_large}
use Rattle.file_ok.proofs.VerdictLaws.{small}
use Rattle.obj_text.specs.Text.{line_refusal, Face, faces_of, corners_from, corners_of, vertex_of}
use Rattle.obj_part.specs.Bytes.{le32, le64, f64_bytes, vec_bytes, entry_bytes, trailer_bytes}
use Rattle.obj_part.specs.File.{vertex_block, entries_from, part_file, obj_refusal}
use Rattle.obj_part.proofs.FileLaws.{block_length, entries_length}
use Rattle.obj_laws.specs.Found.{no_face, face_of}

-- ---- what is known of a text and a job that are not refused
pub record Written (text job : List ℕ) : Type 0 where
  pub lines : line_refusal text ≡ Ok tt
  pub vertices_to : length (corners_of text) ≤ 16384
  pub polygons_to_lem : length (faces_of text) ≤ 4096
  pub job_length : length job ≡ 128

small_enough : (v p : ℕ) → too_large v p ≡ false → (v ≤ 16384) × (p ≤ 4096)
unfolding too_large
small_enough v p h = small v p h

pub written : (text job : List ℕ) (room : ℕ) → obj_refusal text (length job) room ≡ Ok tt → Written text job
unfolding obj_refusal
written text job room h = first (line_refusal text) refl h
  where
    v : ℕ
    v = length (corners_of text)

    p : ℕ
    p = length (faces_of text)

    rest : Result ⊤ Refusal
    rest = cond (ltb room (size_of v p)) (Err OutputTooShort) (Ok tt)

    third : (b : Bool) → line_refusal text ≡ Ok tt → (v ≤ 16384) × (p ≤ 4096) → eqb (length job) 128 ≡ b → cond (not b) (Err BadJob) rest ≡ Ok tt → Written text job
    third true l s t e = record { lines = l; vertices_to = s.0; polygons_to_lem = s.1; job_length = eqb-true (length job) 128 t }
    third false l s t e = absurd cc

    second : (b : Bool) → line_refusal text ≡ Ok tt → too_large v p ≡ b → cond b (Err TooLarge) (cond (not (eqb (length job) 128)) (Err BadJob) rest) ≡ Ok tt → Written text job
    second true l t e = absurd cc
    second false l t e = third (eqb (length job) 128) l (small_enough v p t) refl e

    first : (q : Result ⊤ Refusal) → line_refusal text ≡ q → result_and q (cond (too_large v p) (Err TooLarge) (cond (not (eqb (length job) 128)) (Err BadJob) rest)) ≡ Ok tt → Written text job
    first (Ok x) t e = second (too_large v p) t refl e
    first (Err d) t e = absurd cc

-- ---- the two blocks, from a vertex or a polygon on
vec_length : (text : List ℕ) (n : ℕ) → length (vec_bytes (vertex_of text n)) ≡ 24
unfolding vec_bytes f64_bytes le64 le32
vec_length text n = refl

entry_length : (index first count : ℕ) → length (entry_bytes index first count) ≡ 80
unfolding entry_bytes le32
entry_length index first count = refl

block_drop : (text ns t : List ℕ) (i : ℕ) → i ≤ length ns → drop (24 * i) (vertex_block text ns ++ t) ≡ vertex_block text (drop i ns) ++ t
unfolding vertex_block
block_drop text ns t zero h = refl
block_drop text [] t (suc i) h = absurd (omega (arith, h))
block_drop text (n ∷ ns) t (suc i) h =
    let v = vec_bytes (vertex_of text n) in
    let b = vertex_block text ns in
    ap (drop (24 * suc i)) (append_assoc v b t)
    ∙ ap (λ (k : ℕ). drop k (v ++ (b ++ t))) (place (length v) (vec_length text n))
    ∙ drop-append-add v (b ++ t) (24 * i)
    ∙ block_drop text ns t i (omega (arith, h))
  where
    place : (l : ℕ) → l ≡ 24 → 24 * suc i ≡ l + 24 * i
    place l e = omega arith

entries_drop : (fs : List Face) (t : List ℕ) (first p : ℕ) → p ≤ length fs → drop (80 * p) (entries_from first fs ++ t) ≡ entries_from (first + length (corners_from (take p fs))) (drop p fs) ++ t
unfolding entries_from corners_from
entries_drop fs t first zero h = ap (λ (k : ℕ). entries_from k fs ++ t) (sym (add-zero first))
entries_drop [] t first (suc p) h = absurd (omega (arith, h))
entries_drop (f ∷ fs) t first (suc p) h =
    let n = length f.numbers in
    let e = entry_bytes f.index first n in
    let b = entries_from (first + n) fs in
    let c = corners_from (take p fs) in
    ap (drop (80 * suc p)) (append_assoc e b t)
    ∙ ap (λ (k : ℕ). drop k (e ++ (b ++ t))) (place (length e) (entry_length f.index first n))
    ∙ drop-append-add e (b ++ t) (80 * p)
    ∙ entries_drop fs t (first + n) p (omega (arith, h))
    ∙ ap (λ (k : ℕ). entries_from k (drop p fs) ++ t) (sum n (length c) (length (f.numbers ++ c)) (length-append f.numbers c))
  where
    place : (l : ℕ) → l ≡ 80 → 80 * suc p ≡ l + 80 * p
    place l e = omega arith

    sum : (n c x : ℕ) → x ≡ n + c → first + n + c ≡ first + x
    sum n c x e = omega arith

-- the first entry from a polygon on
entries_first : (fs : List Face) (t : List ℕ) (first p : ℕ) → p < length fs
    → entries_from first (drop p fs) ++ t ≡ entry_bytes (get_or fs p no_face).index first (length (get_or fs p no_face).numbers) ++ (entries_from (first + length (get_or fs p no_face).numbers) (drop (suc p) fs) ++ t)
unfolding entries_from
entries_first fs t first p h =
    let f = get_or fs p no_face in
    ap (λ (l : List Face). entries_from first l ++ t) (drop-cons fs p no_face h)
    ∙ append_assoc (entry_bytes f.index first (length f.numbers)) (entries_from (first + length f.numbers) (drop (suc p) fs)) t

-- ---- the file
-- where the run of polygon p begins
abbrev pub first_of : List ℕ → ℕ → ℕ
first_of text p = length (corners_from (take p (faces_of text)))

module _ (text job : List ℕ) where
  -- the last 16 bytes
  abbrev pub trailer : List ℕ
  trailer = trailer_bytes (length (corners_of text)) (length (faces_of text))

  pub vertex_place : (i : ℕ) → i < length (corners_of text) → drop (24 * i) (part_file text job)
      ≡ vec_bytes (vertex_of text (get_or (corners_of text) i 0)) ++ (vertex_block text (drop (suc i) (corners_of text)) ++ (entries_from 0 (faces_of text) ++ (job ++ trailer)))
  unfolding part_file vertex_block
  vertex_place i h =
      let t = entries_from 0 (faces_of text) ++ (job ++ trailer) in
      block_drop text (corners_of text) t i (omega (arith, h))
      ∙ ap (λ (ns : List ℕ). vertex_block text ns ++ t) (drop-cons (corners_of text) i 0 h)
      ∙ append_assoc (vec_bytes (vertex_of text (get_or (corners_of text) i 0))) (vertex_block text (drop (suc i) (corners_of text))) t

  entries_place : drop (24 * length (corners_of text)) (part_file text job) ≡ entries_from 0 (faces_of text) ++ (job ++ trailer)
  unfolding part_file
  entries_place =
      drop_at (vertex_block text (corners_of text)) (entries_from 0 (faces_of text) ++ (job ++ trailer)) (24 * length (corners_of text)) (block_length text (corners_of text))

  further : (n : ℕ) → drop (24 * length (corners_of text) + n) (part_file text job) ≡ drop n (entries_from 0 (faces_of text) ++ (job ++ trailer))
  further n = sym (drop-drop n (24 * length (corners_of text)) (part_file text job)) ∙ ap (drop n) entries_place

  pub entry_place : (p : ℕ) → p < length (faces_of text) → drop (entry_at (length (corners_of text)) p) (part_file text job)
      ≡ entry_bytes (face_of text p).index (first_of text p) (length (face_of text p).numbers) ++ (entries_from (first_of text p + length (face_of text p).numbers) (drop (suc p) (faces_of text)) ++ (job ++ trailer))
  unfolding face_of
  entry_place p h =
      further (80 * p)
      ∙ entries_drop (faces_of text) (job ++ trailer) 0 p (omega (arith, h))
      ∙ ap (λ (k : ℕ). entries_from k (drop p (faces_of text)) ++ (job ++ trailer)) (zero-add (first_of text p))
      ∙ entries_first (faces_of text) (job ++ trailer) (first_of text p) p h

  pub job_place : drop (entry_at (length (corners_of text)) (length (faces_of text))) (part_file text job) ≡ job ++ trailer
  job_place =
      further (80 * length (faces_of text))
      ∙ drop_at (entries_from 0 (faces_of text)) (job ++ trailer) (80 * length (faces_of text)) (entries_length (faces_of text) 0)

  pub trailer_place : length job ≡ 128 → drop (entry_at (length (corners_of text)) (length (faces_of text)) + 128) (part_file text job) ≡ trailer
  trailer_place h =
      sym (drop-drop 128 (entry_at (length (corners_of text)) (length (faces_of text))) (part_file text job)) ∙ ap (drop 128) job_place ∙ drop_at job trailer 128 h
