-- When a vertex or a polygon entry is out of document 01's rules (refusals 6 and 7). Definitions only.
use Rattle.std.specs.Prelude.{Bool, false, ◌&&◌, ◌||◌, cond, List, ℕ, ◌+◌, ◌*◌, eqb, leb}
use Rattle.list_laws.specs.Below.{all_below, sum_below}
use Rattle.file_part.specs.file_field.specs.Field.{u32_at, f64_at, vec_at_of}
use Rattle.file_part.specs.file_field.specs.Test.{in_range, is_point, is_direction, ten_thousand, zero_words}
use Rattle.file_job_ok.specs.Rules.{thousandth}
use Rattle.file_part.specs.Layout.{entry_at}
use Rattle.file_part.specs.Part.{first_at, count_at_of}

-- ---- 6: "coordinate not finite or out of range"
unfoldable pub vertex_good : List ℕ → ℕ → Bool
vertex_good s i = is_point (vec_at_of s (24 * i))

unfoldable pub vertices_good : List ℕ → ℕ → Bool
vertices_good s v = all_below v (vertex_good s)

-- ---- 7: "polygon entry out of the rules above, or vertices left after the last run"
-- origin and direction of a cylinder or a revolved face
unfoldable pub axis_good : List ℕ → ℕ → Bool
axis_good s at = is_point (vec_at_of s (at + 24)) && is_direction (vec_at_of s (at + 48))

-- "radius 0.001 to 1e4"
unfoldable pub radius_good : List ℕ → ℕ → Bool
radius_good s at = in_range thousandth (f64_at s (at + 72)) ten_thousand

-- "Fields the kind has no use for are all zero bits": a plane and another surface use none of seven, a revolved face all but the radius
unfoldable pub surface_good : ℕ → List ℕ → ℕ → Bool
surface_good kind s at =
    cond (eqb kind 0 || eqb kind 3) (zero_words s (at + 24) 7)
    (cond (eqb kind 1) (axis_good s at && radius_good s at)
    (cond (eqb kind 2) (axis_good s at && zero_words s (at + 72) 1) false))

-- "Vertex runs follow on": where the run of polygon p begins
unfoldable pub run_start : List ℕ → ℕ → ℕ → ℕ
run_start s v p = sum_below p (λ q. count_at_of s (entry_at v q))

-- "3 to 64 vertices a polygon", of the v that there are
unfoldable pub run_good : List ℕ → ℕ → ℕ → ℕ → Bool
run_good s v at first =
    eqb (first_at s at) first && leb 3 (count_at_of s at) && leb (count_at_of s at) 64 && leb (first + count_at_of s at) v

-- an entry whose run begins at a vertex
unfoldable pub entry_good : List ℕ → ℕ → ℕ → ℕ → Bool
entry_good s v at first = run_good s v at first && eqb (u32_at s (at + 20)) 0 && surface_good (u32_at s (at + 16)) s at

unfoldable pub polygon_good : List ℕ → ℕ → ℕ → Bool
polygon_good s v p = entry_good s v (entry_at v p) (run_start s v p)

-- all entries, and the runs "fill the vertex block"
unfoldable pub polygons_good : List ℕ → ℕ → ℕ → Bool
polygons_good s v p = all_below p (polygon_good s v) && eqb (run_start s v p) v
