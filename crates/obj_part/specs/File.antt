-- The part file of a text's polygons and a job, and when none is written. Definitions only.
use Rattle.std.specs.Prelude.{⊤, Result, Ok, Err, not, cond, List, [], ◌∷◌, ◌++◌, ℕ, ◌+◌, eqb, ltb, length}
use Rattle.std.specs.Result.{result_and}
use Rattle.refusal.specs.declared.Refusal.{Refusal}
use Rattle.refusal.specs.declared.Refusal.TheVariants.{TooLarge, BadJob, OutputTooShort}
use Rattle.file_part.specs.Layout.{size_of}
use Rattle.file_ok.specs.Verdict.{too_large}
use Rattle.obj_text.specs.Text.{line_refusal, Face, faces_of, corners_of, vertex_of}
use Rattle.obj_part.specs.Bytes.{vec_bytes, entry_bytes, trailer_bytes}

-- "vertices repeated per polygon": the vertices of so many corners of a text
unfoldable pub vertex_block : List ℕ → List ℕ → List ℕ
unfolding vec_bytes
vertex_block text [] = []
vertex_block text (n ∷ ns) = vec_bytes (vertex_of text n) ++ vertex_block text ns

-- "polygons .. in the order of their `f` lines"; the run of the first one begins at a vertex
unfoldable pub entries_from : ℕ → List Face → List ℕ
unfolding entry_bytes
entries_from first [] = []
entries_from first (f ∷ fs) = entry_bytes f.index first (length f.numbers) ++ entries_from (first + length f.numbers) fs

-- "The result is a part file: .. and the job that the caller gives as 128 bytes"
unfoldable pub part_file : List ℕ → List ℕ → List ℕ
unfolding vertex_block entries_from trailer_bytes
part_file text job =
    vertex_block text (corners_of text) ++ (entries_from 0 (faces_of text) ++ (job ++ trailer_bytes (length (corners_of text)) (length (faces_of text))))

-- "14 .. and .. 15 ..; then a V or P too large for the file gets 3, a job not of 128 bytes 5, and an output buffer that is too short 16"
unfoldable pub obj_refusal : List ℕ → ℕ → ℕ → Result ⊤ Refusal
obj_refusal text job room =
    result_and (line_refusal text)
    (cond (too_large (length (corners_of text)) (length (faces_of text))) (Err TooLarge)
    (cond (not (eqb job 128)) (Err BadJob)
    (cond (ltb room (size_of (length (corners_of text)) (length (faces_of text)))) (Err OutputTooShort) (Ok tt))))
