-- What acceptance says: of a file that none of refusals 1 to 7 turns back. Later layers use these laws and never look at the tests again.
use mathlib.Core.Path.{◌≡◌, refl}
use mathlib.Core.Bool.{Bool, true, false, not, ◌&&◌, cond}
use mathlib.Core.List.{List}
use Prim.Native.Nat.{ℕ, ◌+◌, ◌*◌, ◌≤◌, ◌<◌}
use native.Mathlib.Omega.{arith}
use lib.Dec.{eqb, leb, ltb}
use lib.ListN.{length}
use borrow.Author.Tests.{not-false, ltb-false, eqb-true, leb-true}
use Rattle.num_float.proofs.Tests.{and_left, and_right, or_false_left, or_false_right}
use Rattle.list_laws.specs.Below.{all_below}
use Rattle.list_laws.proofs.Below.{all_each}
use Rattle.file_part.specs.math.specs.Size.{VecWithin}
use Rattle.file_part.specs.file_field.specs.Field.{vec_at_of}
use Rattle.file_part.specs.file_field.specs.Test.{is_point}
use Rattle.file_part.specs.file_field.proofs.FieldLaws.{point_within}
use Rattle.file_job_ok.specs.Rules.{job_good}
use Rattle.file_job_ok.specs.Good.{GoodJob}
use Rattle.file_job_ok.proofs.JobLaws.{good_job}
use Rattle.std.specs.Prelude.{⊤, Result, Ok, Err}
use Rattle.refusal.specs.declared.Refusal.{Refusal}
use Rattle.refusal.specs.declared.Refusal.TheVariants.{TooShort, WrongEdition, TooLarge, WrongLength, BadJob, BadVertex, BadPolygon}
use Rattle.file_part.specs.Layout.{edition, vertex_count_of, polygon_count_of, back, entry_at, size_of}
use Rattle.file_part.specs.Part.{surface_at, first_at, count_at_of}
use Rattle.file_ok.specs.Rules.{vertex_good, vertices_good, run_start, run_good, entry_good, polygon_good, polygons_good}
use Rattle.file_ok.specs.Verdict.{too_large, fitted, content_verdict, verdict_of}
use Rattle.file_ok.specs.Work.{Readable}
use Rattle.file_ok.specs.Readable.{Run, SurfaceWithin}
use Rattle.file_ok.proofs.PolygonLaws.{entry_run, entry_surface, run_inside}
use Rattle.file_ok.proofs.GoodLaws.{surface_within}

-- ---- the tests that an accepted file has passed
-- a verdict of none was not that refusal
past : (t : Bool) (x : Refusal) (r : Result ⊤ Refusal) → cond t (Err x) r ≡ Ok tt → (t ≡ false) × (r ≡ Ok tt)
past true x r h = (cc)
past false x r h = (refl, h)

pub record Tests (s : List ℕ) : Type 0 where
  pub long : ltb (length s) 144 ≡ false
  pub few : too_large (vertex_count_of s) (polygon_count_of s) ≡ false
  pub size : fitted s (vertex_count_of s) (polygon_count_of s) ≡ true
  pub job : job_good s (entry_at (vertex_count_of s) (polygon_count_of s)) ≡ true
  pub vertices : vertices_good s (vertex_count_of s) ≡ true
  pub polygons : polygons_good s (vertex_count_of s) (polygon_count_of s) ≡ true

pub readable_tests : (s : List ℕ) → Readable s → Tests s
unfolding Readable verdict_of content_verdict
readable_tests s h =
    let a = past (ltb (length s) 144) TooShort _ h in
    let b = past (not (eqb (edition s) 1)) WrongEdition _ a.1 in
    let c = past (too_large (vertex_count_of s) (polygon_count_of s)) TooLarge _ b.1 in
    let d = past (not (fitted s (vertex_count_of s) (polygon_count_of s))) WrongLength _ c.1 in
    let j = past (not (job_good s (entry_at (vertex_count_of s) (polygon_count_of s)))) BadJob _ d.1 in
    let v = past (not (vertices_good s (vertex_count_of s))) BadVertex _ j.1 in
    let p = past (not (polygons_good s (vertex_count_of s) (polygon_count_of s))) BadPolygon (Ok tt) v.1 in
    record {
      long = a.0;
      few = c.0;
      size = not-false _ d.0;
      job = not-false _ j.0;
      vertices = not-false _ v.0;
      polygons = not-false _ p.0;
    }

-- ---- sizes
pub readable_length : (s : List ℕ) → Readable s → length s ≡ 24 * vertex_count_of s + 80 * polygon_count_of s + 144
unfolding fitted
readable_length s h =
    eqb-true _ _ (and_left (eqb (length s) (size_of (vertex_count_of s) (polygon_count_of s))) (eqb (back s) (80 * polygon_count_of s + 144)) (readable_tests s h).size)

pub readable_counts : (s : List ℕ) → Readable s → (vertex_count_of s ≤ 16384) × (polygon_count_of s ≤ 4096)
unfolding too_large
readable_counts s h =
    let t = (readable_tests s h).few in
    (ltb-false _ _ (or_false_left (ltb 16384 (vertex_count_of s)) (ltb 4096 (polygon_count_of s)) t), ltb-false _ _ (or_false_right (ltb 16384 (vertex_count_of s)) (ltb 4096 (polygon_count_of s)) t))

pub readable_job : (s : List ℕ) → Readable s → GoodJob s (entry_at (vertex_count_of s) (polygon_count_of s))
readable_job s h = good_job s (entry_at (vertex_count_of s) (polygon_count_of s)) (readable_tests s h).job

-- ---- vertices
pub readable_point : (s : List ℕ) → Readable s → (i : ℕ) → i < vertex_count_of s → is_point (vec_at_of s (24 * i)) ≡ true
unfolding vertices_good vertex_good
readable_point s h i l = all_each (vertex_count_of s) (vertex_good s) (readable_tests s h).vertices i l

pub readable_vertex : (s : List ℕ) → Readable s → (i : ℕ) → i < vertex_count_of s → VecWithin (vec_at_of s (24 * i)) 10000
readable_vertex s h i l = point_within (vec_at_of s (24 * i)) (readable_point s h i l)

-- ---- polygons
readable_entry : (s : List ℕ) → Readable s → (p : ℕ) → p < polygon_count_of s →
    entry_good s (vertex_count_of s) (entry_at (vertex_count_of s) p) (run_start s (vertex_count_of s) p) ≡ true
unfolding polygons_good polygon_good
readable_entry s h p l =
    all_each (polygon_count_of s) (polygon_good s (vertex_count_of s)) (and_left _ (eqb (run_start s (vertex_count_of s) (polygon_count_of s)) (vertex_count_of s)) (readable_tests s h).polygons) p l

-- the four parts of a good run
run_parts : (s : List ℕ) (v p : ℕ) → run_good s v (entry_at v p) (run_start s v p) ≡ true → Run s v p
unfolding run_good
run_parts s v p h =
    let at = entry_at v p in
    let three = and_left (eqb (first_at s at) (run_start s v p) && leb 3 (count_at_of s at) && leb (count_at_of s at) 64) (leb (run_start s v p + count_at_of s at) v) h in
    let two = and_left (eqb (first_at s at) (run_start s v p) && leb 3 (count_at_of s at)) (leb (count_at_of s at) 64) three in
    record {
      first = eqb-true _ _ (and_left (eqb (first_at s at) (run_start s v p)) (leb 3 (count_at_of s at)) two);
      least = leb-true _ _ (and_right (eqb (first_at s at) (run_start s v p)) (leb 3 (count_at_of s at)) two);
      most = leb-true _ _ (and_right (eqb (first_at s at) (run_start s v p) && leb 3 (count_at_of s at)) (leb (count_at_of s at) 64) three);
      inside = run_inside s v at (run_start s v p) h;
    }

pub readable_run : (s : List ℕ) → Readable s → (p : ℕ) → p < polygon_count_of s → Run s (vertex_count_of s) p
readable_run s h p l = run_parts s (vertex_count_of s) p (entry_run s (vertex_count_of s) _ (run_start s (vertex_count_of s) p) (readable_entry s h p l))

pub readable_whole : (s : List ℕ) → Readable s → run_start s (vertex_count_of s) (polygon_count_of s) ≡ vertex_count_of s
unfolding polygons_good
readable_whole s h = eqb-true _ _ (and_right (all_below (polygon_count_of s) (polygon_good s (vertex_count_of s))) (eqb (run_start s (vertex_count_of s) (polygon_count_of s)) (vertex_count_of s)) (readable_tests s h).polygons)

-- the numbers of a polygon's surface
pub readable_surface : (s : List ℕ) → Readable s → (p : ℕ) → p < polygon_count_of s → SurfaceWithin (surface_at s (entry_at (vertex_count_of s) p))
readable_surface s h p l =
    surface_within s (entry_at (vertex_count_of s) p) (entry_surface s (vertex_count_of s) (entry_at (vertex_count_of s) p) (run_start s (vertex_count_of s) p) (readable_entry s h p l))

-- ---- where things stand in the file
-- a polygon's entry
pub readable_entry_room : (s : List ℕ) → Readable s → (p : ℕ) → p < polygon_count_of s → entry_at (vertex_count_of s) p + 80 ≤ length s
readable_entry_room s h p l = omega (arith, readable_length s h, l)

-- a vertex
pub readable_vertex_room : (s : List ℕ) → Readable s → (i : ℕ) → i < vertex_count_of s → 24 * i + 24 ≤ length s
readable_vertex_room s h i l = omega (arith, readable_length s h, l)

-- vertex k of polygon p's run
pub readable_index : (s : List ℕ) → Readable s → (p : ℕ) → p < polygon_count_of s → (k : ℕ) → k < count_at_of s (entry_at (vertex_count_of s) p) →
    first_at s (entry_at (vertex_count_of s) p) + k < vertex_count_of s
readable_index s h p l k m =
    let r = readable_run s h p l in
    omega (arith, r.first, r.inside, m)
