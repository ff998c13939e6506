-- Where things stand in a part file. Definitions only.
-- "V vertices of 24 bytes (three f64, mm), P polygons of 80, a job of 128, a trailer of 16 (u32: edition 1, V, P, and back = 80 × P + 144,
-- the bytes from the end of the file to the first polygon)".
use Rattle.std.specs.Prelude.{List, ℕ, ◌+◌, ◌-◌, ◌*◌, length}
use Rattle.file_job.specs.file_field.specs.Field.{u32_at}

-- ---- the trailer: the last 16 bytes
unfoldable pub edition : List ℕ → ℕ
edition s = u32_at s (length s - 16)

unfoldable pub vertex_count_of : List ℕ → ℕ
vertex_count_of s = u32_at s (length s - 12)

unfoldable pub polygon_count_of : List ℕ → ℕ
polygon_count_of s = u32_at s (length s - 8)

unfoldable pub back : List ℕ → ℕ
back s = u32_at s (length s - 4)

-- ---- where polygon p of a file with v vertices stands, and the job
abbrev pub entry_at : ℕ → ℕ → ℕ
entry_at v p = 24 * v + 80 * p

abbrev pub size_of : ℕ → ℕ → ℕ
size_of v p = entry_at v p + 144
