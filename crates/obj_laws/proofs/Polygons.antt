-- The part file of a text, read: its vertices and its polygons are the text's.
use Rattle.std.proofs.Common.{Ok}
use mathlib.Core.Path.{◌≡◌, sym, ap, ◌∙◌}
use mathlib.Core.List.{List}
use Prim.Native.Nat.{ℕ, zero, suc, ◌+◌, ◌-◌, ◌*◌, ◌≤◌, ◌<◌}
use native.Mathlib.Nat.{add-zero, le_trans, le_of_eq}
use native.Mathlib.Omega.{arith}
use lib.ListN.{length, take, drop, get_or}
use lib.Seq.{take_at}
use Rattle.file_field.specs.Field.{vec_at_of}
use Rattle.file_job.specs.Job.{job_at, name_at}
use Rattle.file_part.specs.declared.read.FaceId.{FaceId}
use Rattle.file_part.specs.declared.read.SurfaceKind.TheVariants.{Plane}
use Rattle.file_part.specs.Layout.{edition, vertex_count_of, polygon_count_of, back, entry_at, size_of}
use Rattle.file_part.specs.Part.{face_at, surface_at, first_at, count_at_of, part_of}
use Rattle.file_part.proofs.PartLaws.{part_vertices, part_polygons, part_vertex, part_first, part_count, part_face, part_surface, part_job, part_name}
use Rattle.obj_text.specs.Text.{faces_of, corners_of, vertex_of, vertices_of}
use Rattle.obj_text.proofs.BoundLaws.{Bounded, face_bounded, vertex_held, corners_more, corners_all, corner_of_face}
use Rattle.obj_part.specs.File.{part_file, obj_refusal}
use Rattle.obj_part.proofs.FileLaws.{part_length}
use Rattle.obj_laws.specs.Found.{no_face, face_of, SamePolygon, SamePolygons, SameVertices, SameJob}
use Rattle.obj_laws.proofs.FieldLaws.{vec_drop, vec_back, entry_feature, entry_index, entry_first, entry_count, entry_surface, trailer_edition, trailer_vertices, trailer_polygons, trailer_back}
use Rattle.obj_laws.proofs.PlaceLaws.{Written, written, first_of, trailer, vertex_place, entry_place, job_place, trailer_place}
use Rattle.obj_laws.proofs.JobLaws.{job_in, name_in}

-- ---- runs of corners
module _ (text : List ℕ) where
  pub run_more : (p : ℕ) → p < length (faces_of text) → first_of text (p + 1) ≡ first_of text p + length (face_of text p).numbers
  unfolding face_of
  run_more p h = corners_more text no_face p h

  run_grows : (n p : ℕ) → p + n ≤ length (faces_of text) → first_of text p ≤ first_of text (p + n)
  run_grows zero p h = le_of_eq (ap (first_of text) (sym (add-zero p)))
  run_grows (suc n) p h =
      le_trans (run_grows n p (omega arith)) (le_trans (omega (arith, run_more (p + n) (omega arith))) (le_of_eq (ap (first_of text) (next p n))))
    where
      next : (p n : ℕ) → p + n + 1 ≡ p + suc n
      next p n = omega arith

  -- a run ends inside the corners
  pub run_inside : (p : ℕ) → p < length (faces_of text) → first_of text p + length (face_of text p).numbers ≤ length (corners_of text)
  run_inside p h =
      let n = length (faces_of text) in
      let end : first_of text (p + 1) ≤ first_of text (p + 1 + (n - (p + 1))) = run_grows (n - (p + 1)) (p + 1) (omega (arith, h)) in
      let all : first_of text (p + 1 + (n - (p + 1))) ≡ length (corners_of text) = ap (first_of text) (back n p h) ∙ corners_all text in
      omega (arith, run_more p h, end, all)
    where
      back : (n p : ℕ) → p < n → p + 1 + (n - (p + 1)) ≡ n
      back n p h = omega arith

module _ (text job : List ℕ) (w : Written text job) where
  -- ---- the trailer, read back
  pub file_length : length (part_file text job) ≡ size_of (length (corners_of text)) (length (faces_of text))
  file_length = part_length text job w.job_length

  ends : length (part_file text job) ≡ entry_at (length (corners_of text)) (length (faces_of text)) + 128 + 16
  ends = file_length ∙ sum (entry_at (length (corners_of text)) (length (faces_of text)))
    where
      sum : (n : ℕ) → n + 144 ≡ n + 128 + 16
      sum n = omega arith

  abbrev place : ℕ
  place = entry_at (length (corners_of text)) (length (faces_of text)) + 128

  pub file_edition : edition (part_file text job) ≡ 1
  file_edition = trailer_edition (part_file text job) place (length (corners_of text)) (length (faces_of text)) ends (trailer_place text job w.job_length)

  pub file_vertices : vertex_count_of (part_file text job) ≡ length (corners_of text)
  file_vertices =
      trailer_vertices (part_file text job) place (length (corners_of text)) (length (faces_of text)) ends (trailer_place text job w.job_length)
      (omega (arith, w.vertices_to))

  pub file_polygons : polygon_count_of (part_file text job) ≡ length (faces_of text)
  file_polygons =
      trailer_polygons (part_file text job) place (length (corners_of text)) (length (faces_of text)) ends (trailer_place text job w.job_length)
      (omega (arith, w.polygons_to_lem))

  pub file_back : back (part_file text job) ≡ 80 * length (faces_of text) + 144
  file_back =
      trailer_back (part_file text job) place (length (corners_of text)) (length (faces_of text)) ends (trailer_place text job w.job_length)
      (omega (arith, w.polygons_to_lem))

  -- ---- a vertex
  pub file_vertex : (i : ℕ) → i < length (corners_of text) → vec_at_of (part_file text job) (24 * i) ≡ vertex_of text (get_or (corners_of text) i 0)
  file_vertex i h =
      vec_drop (part_file text job) (24 * i)
      ∙ ap (λ (l : List ℕ). vec_at_of l 0) (vertex_place text job i h)
      ∙ vec_back (vertex_of text (get_or (corners_of text) i 0)) _ (vertex_held text (get_or (corners_of text) i 0))

  -- ---- an entry
  pub bounded : (p : ℕ) → p < length (faces_of text) → Bounded (length (vertices_of text)) (face_of text p)
  unfolding face_of
  bounded p h = face_bounded text no_face w.lines p h

  module _ (p : ℕ) (h : p < length (faces_of text)) where
    run_end : first_of text p + length (face_of text p).numbers ≤ 16384
    run_end = le_trans (run_inside text p h) w.vertices_to

    pub file_feature : (face_at (part_file text job) (entry_at (length (corners_of text)) p)).feature ≡ 1
    file_feature = entry_feature (part_file text job) _ (entry_at (length (corners_of text)) p) _ _ _ (entry_place text job p h)

    pub file_index : (face_at (part_file text job) (entry_at (length (corners_of text)) p)).index ≡ (face_of text p).index
    file_index = entry_index (part_file text job) _ (entry_at (length (corners_of text)) p) _ _ _ (entry_place text job p h) (bounded p h).index_below

    pub file_first : first_at (part_file text job) (entry_at (length (corners_of text)) p) ≡ first_of text p
    file_first = entry_first (part_file text job) _ (entry_at (length (corners_of text)) p) _ _ _ (entry_place text job p h) (omega (arith, run_end))

    pub file_count : count_at_of (part_file text job) (entry_at (length (corners_of text)) p) ≡ length (face_of text p).numbers
    file_count = entry_count (part_file text job) _ (entry_at (length (corners_of text)) p) _ _ _ (entry_place text job p h) (omega (arith, run_end))

    pub file_surface : surface_at (part_file text job) (entry_at (length (corners_of text)) p) ≡ Plane
    file_surface = entry_surface (part_file text job) _ (entry_at (length (corners_of text)) p) _ _ _ (entry_place text job p h)

  -- ---- the part
  -- an entry is where the trailer's V puts it
  entry_is : (p : ℕ) → entry_at (vertex_count_of (part_file text job)) p ≡ entry_at (length (corners_of text)) p
  entry_is p = ap (λ (v : ℕ). entry_at v p) file_vertices

  below_polygons : (p : ℕ) → p < (part_of (part_file text job)).polygons → p < length (faces_of text)
  below_polygons p h = omega (arith, h, part_polygons (part_file text job), file_polygons)

  part_first_is : (p : ℕ) → p < length (faces_of text) → ((part_of (part_file text job)).polygon p).first ≡ first_of text p
  part_first_is p h = part_first (part_file text job) p ∙ ap (first_at (part_file text job)) (entry_is p) ∙ file_first p h

  part_count_is : (p : ℕ) → p < length (faces_of text) → ((part_of (part_file text job)).polygon p).count ≡ length (face_of text p).numbers
  part_count_is p h = part_count (part_file text job) p ∙ ap (count_at_of (part_file text job)) (entry_is p) ∙ file_count p h

  part_vertex_is : (i : ℕ) → i < length (corners_of text) → (part_of (part_file text job)).vertex i ≡ vertex_of text (get_or (corners_of text) i 0)
  part_vertex_is i h = part_vertex (part_file text job) i ∙ file_vertex i h

  part_corner_is : (p : ℕ) → p < length (faces_of text) → (k : ℕ) → k < ((part_of (part_file text job)).polygon p).count
      → (part_of (part_file text job)).vertex (((part_of (part_file text job)).polygon p).first + k) ≡ vertex_of text (get_or (face_of text p).numbers k 0)
  unfolding face_of
  part_corner_is p h k l =
      let m : k < length (face_of text p).numbers = omega (arith, l, part_count_is p h) in
      ap (λ (i : ℕ). (part_of (part_file text job)).vertex (i + k)) (part_first_is p h)
      ∙ part_vertex_is (first_of text p + k) (omega (arith, m, run_inside text p h))
      ∙ ap (vertex_of text) (corner_of_face text no_face p k h m)

  same_polygon : (p : ℕ) → p < length (faces_of text) → SamePolygon text (part_of (part_file text job)) p
  same_polygon p h = record {
    feature = ap (λ (a : FaceId). a.feature) (part_face (part_file text job) p) ∙ ap (λ (i : ℕ). (face_at (part_file text job) i).feature) (entry_is p) ∙ file_feature p h;
    index = ap (λ (a : FaceId). a.index) (part_face (part_file text job) p) ∙ ap (λ (i : ℕ). (face_at (part_file text job) i).index) (entry_is p) ∙ file_index p h;
    surface = part_surface (part_file text job) p ∙ ap (surface_at (part_file text job)) (entry_is p) ∙ file_surface p h;
    count = part_count_is p h;
    corner = part_corner_is p h;
  }

  written_polygons : SamePolygons text (part_of (part_file text job))
  written_polygons = record {
    polygons = part_polygons (part_file text job) ∙ file_polygons;
    polygon = λ p h. same_polygon p (below_polygons p h);
  }

  written_vertices : SameVertices text (part_of (part_file text job))
  written_vertices = record {
    vertices = part_vertices (part_file text job) ∙ file_vertices;
    vertex = λ i h. part_vertex_is i (omega (arith, h, part_vertices (part_file text job), file_vertices));
    first = λ p h. part_first_is p (below_polygons p h);
  }

  -- ---- the job
  pub job_at_is : entry_at (vertex_count_of (part_file text job)) (polygon_count_of (part_file text job)) ≡ entry_at (length (corners_of text)) (length (faces_of text))
  job_at_is = rw (file_vertices, file_polygons)

  written_job : SameJob job (part_of (part_file text job))
  written_job = record {
    job_is = part_job (part_file text job) ∙ ap (job_at (part_file text job)) job_at_is ∙ job_in (part_file text job) job (trailer text job) _ w.job_length (job_place text job);
    name_is = λ h. part_name (part_file text job) ∙ ap (name_at (part_file text job)) job_at_is ∙ name_in (part_file text job) job (trailer text job) _ w.job_length (job_place text job) h;
  }

-- ---- where no refusal of item 1 is met, so that the file is written
-- "length .. 24V + 80P + 144"
pub same_length : (text job : List ℕ) (room : ℕ) → obj_refusal text (length job) room ≡ Ok tt → length (part_file text job) ≡ size_of (length (corners_of text)) (length (faces_of text))
same_length text job room h = file_length text job (written text job room h)

-- "find exactly the polygons of the text, in the order of their `f` lines"
pub same_polygons : (text job : List ℕ) (room : ℕ) → obj_refusal text (length job) room ≡ Ok tt → SamePolygons text (part_of (part_file text job))
same_polygons text job room h = written_polygons text job (written text job room h)

-- "vertices repeated per polygon"
pub same_vertices : (text job : List ℕ) (room : ℕ) → obj_refusal text (length job) room ≡ Ok tt → SameVertices text (part_of (part_file text job))
same_vertices text job room h = written_vertices text job (written text job room h)

-- "the job that the caller gives as 128 bytes", byte for byte, and as it is read
pub same_bytes : (text job : List ℕ) (room : ℕ) → obj_refusal text (length job) room ≡ Ok tt
    → take 128 (drop (entry_at (length (corners_of text)) (length (faces_of text))) (part_file text job)) ≡ job
same_bytes text job room h = ap (take 128) (job_place text job) ∙ take_at job (trailer text job) 128 (written text job room h).job_length

pub same_job : (text job : List ℕ) (room : ℕ) → obj_refusal text (length job) room ≡ Ok tt → SameJob job (part_of (part_file text job))
same_job text job room h = written_job text job (written text job room h)
