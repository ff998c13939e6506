-- What private functions leave on the way; a reader may pass over it. Definitions only.
use Rattle.std.specs.Prelude.{◌≡◌, ⊤, Result, Ok, Err, not, cond, List, [], ◌++◌, ℕ, zero, suc, ◌+◌, ◌-◌, ◌≤◌, ◌<◌, eqb, ltb, length, take, drop, get_or, Float}
use Rattle.refusal.specs.declared.Refusal.{Refusal}
use Rattle.refusal.specs.declared.Refusal.TheVariants.{TooLarge, BadJob, OutputTooShort}
use Rattle.math.specs.declared.Vec3.{Vec3}
use Rattle.file_part.specs.Layout.{size_of}
use Rattle.file_ok.specs.Verdict.{too_large}
use Rattle.obj_text.specs.declared.judge.Tally.{Tally}
use Rattle.obj_text.specs.Text.{Face, faces_of, corners_of, vertices_of, origin}
use Rattle.obj_text.specs.Judged.{Tables, Slots, Sized}
use Rattle.obj_windows.specs.Filled.{row_at_of}
use Rattle.obj_part.specs.Bytes.{vec_bytes, entry_bytes}
use Rattle.obj_part.specs.File.{part_file}

-- 3, 5 and 16
unfoldable pub size_refusal : ℕ → ℕ → ℕ → ℕ → Result ⊤ Refusal
size_refusal v p job room = cond (too_large v p) (Err TooLarge) (cond (not (eqb job 128)) (Err BadJob) (cond (ltb room (size_of v p)) (Err OutputTooShort) (Ok tt)))

-- ---- the vertices of the first corners
unfoldable pub rows_to : (ℕ → Vec3) → ℕ → List ℕ
rows_to row zero = []
rows_to row (suc c) = rows_to row c ++ vec_bytes (row c)

-- the vertex of a corner by its number
unfoldable pub named_row : List ℕ → List Float → List Float → List Float → ℕ → Vec3
unfolding row_at_of
named_row ns xs ys zs c = row_at_of xs ys zs (get_or ns c 0 - 1)

-- each of the first numbers is one of 1 to n
pub record Named (numbers : List ℕ) (used n : ℕ) : Type 0 where
  pub from_one : (c : ℕ) → c < used → 1 ≤ get_or numbers c 0
  pub to_last : (c : ℕ) → c < used → get_or numbers c 0 ≤ n

-- the vertices in their tables, where these have places for all
pub record Rows (text : List ℕ) (n : ℕ) (xs ys zs : List Float) : Type 0 where
  pub many : n ≡ length (vertices_of text)
  pub each : n ≤ 16384 → (j : ℕ) → j < n → row_at_of xs ys zs j ≡ get_or (vertices_of text) j origin

-- what the vertices of the corners are taken from
pub record Sources (text : List ℕ) (t : Tally) (numbers : List ℕ) (xs ys zs : List Float) : Type 0 where
  pub held : t.corners ≤ length numbers
  pub most : t.corners ≤ 16384
  pub named : Named numbers t.corners (length (vertices_of text))
  pub slots : Slots xs ys zs
  pub rows : Rows text t.defined xs ys zs

-- ---- the first polygons
-- where the corners of a polygon begin
unfoldable pub first_at : List ℕ → ℕ → ℕ
first_at cs zero = 0
first_at cs (suc p) = first_at cs p + get_or cs p 0

unfoldable pub entries_to : List ℕ → List ℕ → ℕ → List ℕ
unfolding first_at
entries_to is cs zero = []
entries_to is cs (suc p) = entries_to is cs p ++ entry_bytes (get_or is p 0) (first_at cs p) (get_or cs p 0)

-- ---- what the first pass has left of a text that nothing refuses
pub record Ready (text : List ℕ) (t : Tally) (b : Tables) : Type 0 where
  pub sized : Sized b
  pub corners_are : t.corners ≡ length (corners_of text)
  pub polygons_are : t.polygons ≡ length (faces_of text)
  pub first : take t.corners b.numbers ≡ corners_of text
  pub named : Named b.numbers t.corners (length (vertices_of text))
  pub rows : Rows text t.defined b.xs b.ys b.zs
  pub index_at : (d : Face) (p : ℕ) → p < t.polygons → get_or b.indices p 0 ≡ (get_or (faces_of text) p d).index
  pub count_at : (d : Face) (p : ℕ) → p < t.polygons → get_or b.counts p 0 ≡ length (get_or (faces_of text) p d).numbers

-- the file, and what stood behind it
pub record Written (text job before after : List ℕ) (r : ℕ) : Type 0 where
  pub same_length : length after ≡ length before
  pub length_is : r ≡ length (part_file text job)
  pub buffer_is : after ≡ part_file text job ++ drop (length (part_file text job)) before
