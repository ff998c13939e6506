-- "When a part is turned back": refusals 1 to 7, in their order. Definitions only.
use Rattle.std.specs.Prelude.{⊤, Bool, not, ◌&&◌, ◌||◌, cond, List, ℕ, ◌+◌, ◌*◌, eqb, ltb, length, Result, Ok, Err}
use Rattle.refusal.specs.declared.Refusal.{Refusal}
use Rattle.refusal.specs.declared.Refusal.TheVariants.{TooShort, WrongEdition, TooLarge, WrongLength, BadJob, BadVertex, BadPolygon}
use Rattle.refusal.specs.Numbers as refusal
use Rattle.file_job_ok.specs.Rules.{job_good}
use Rattle.file_part.specs.Layout.{edition, vertex_count_of, polygon_count_of, back, entry_at, size_of}
use Rattle.file_ok.specs.Rules.{vertices_good, polygons_good}

-- the number in document 01's table; 0 is none
unfoldable pub number : {A : Type 0} → Result A Refusal → ℕ
number (Ok x) = 0
number (Err r) = refusal.number r

-- 3: "V over 16,384 or P over 4,096"
unfoldable pub too_large : ℕ → ℕ → Bool
too_large v p = ltb 16384 v || ltb 4096 p

-- 4: "length not 24V + 80P + 144, or back wrong"
unfoldable pub fitted : List ℕ → ℕ → ℕ → Bool
fitted s v p = eqb (length s) (size_of v p) && eqb (back s) (80 * p + 144)

-- 5 to 7, of a file with v vertices and p polygons
unfoldable pub content_verdict : List ℕ → ℕ → ℕ → Result ⊤ Refusal
content_verdict s v p =
    cond (not (job_good s (entry_at v p))) (Err BadJob)
    (cond (not (vertices_good s v)) (Err BadVertex)
    (cond (not (polygons_good s v p)) (Err BadPolygon) (Ok tt)))

-- "Tested by rising number; 6 over all vertices, then 7 over all polygons"
unfoldable pub verdict_of : List ℕ → Result ⊤ Refusal
verdict_of s =
    cond (ltb (length s) 144) (Err TooShort)
    (cond (not (eqb (edition s) 1)) (Err WrongEdition)
    (cond (too_large (vertex_count_of s) (polygon_count_of s)) (Err TooLarge)
    (cond (not (fitted s (vertex_count_of s) (polygon_count_of s))) (Err WrongLength)
    (content_verdict s (vertex_count_of s) (polygon_count_of s)))))

-- ---- 10 comes after 1 to 9: an earlier refusal, or else 10 where too little is lent; 0 for none
unfoldable pub or_too_little : ℕ → Bool → ℕ
or_too_little earlier little = cond (eqb earlier 0) (cond little refusal.too_little_scratch 0) earlier
