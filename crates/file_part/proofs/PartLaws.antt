-- The part, field by field, in the words of the functions that read the file.
use mathlib.Core.Path.{◌≡◌, refl}
use mathlib.Core.List.{List}
use Prim.Native.Nat.{ℕ, ◌*◌}
use Rattle.file_job.specs.file_field.specs.Field.{vec_at_of}
use Rattle.file_job.specs.Job.{job_at, name_at}
use Rattle.file_part.specs.Layout.{vertex_count_of, polygon_count_of, entry_at}
use Rattle.file_part.specs.Part.{face_at, surface_at, first_at, count_at_of, polygon_at, part_of}

pub part_vertices : (s : List ℕ) → (part_of s).vertices ≡ vertex_count_of s
unfolding part_of
part_vertices s = refl

pub part_polygons : (s : List ℕ) → (part_of s).polygons ≡ polygon_count_of s
unfolding part_of
part_polygons s = refl

pub part_vertex : (s : List ℕ) (i : ℕ) → (part_of s).vertex i ≡ vec_at_of s (24 * i)
unfolding part_of
part_vertex s i = refl

pub part_first : (s : List ℕ) (p : ℕ) → ((part_of s).polygon p).first ≡ first_at s (entry_at (vertex_count_of s) p)
unfolding part_of polygon_at
part_first s p = refl

pub part_count : (s : List ℕ) (p : ℕ) → ((part_of s).polygon p).count ≡ count_at_of s (entry_at (vertex_count_of s) p)
unfolding part_of polygon_at
part_count s p = refl

pub part_face : (s : List ℕ) (p : ℕ) → ((part_of s).polygon p).face ≡ face_at s (entry_at (vertex_count_of s) p)
unfolding part_of polygon_at
part_face s p = refl

pub part_surface : (s : List ℕ) (p : ℕ) → ((part_of s).polygon p).surface ≡ surface_at s (entry_at (vertex_count_of s) p)
unfolding part_of polygon_at
part_surface s p = refl

pub part_job : (s : List ℕ) → (part_of s).job ≡ job_at s (entry_at (vertex_count_of s) (polygon_count_of s))
unfolding part_of
part_job s = refl

pub part_name : (s : List ℕ) → (part_of s).name ≡ name_at s (entry_at (vertex_count_of s) (polygon_count_of s))
unfolding part_of
part_name s = refl
