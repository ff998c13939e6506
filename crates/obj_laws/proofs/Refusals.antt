-- Which refusals the part file of a text can meet when it is checked.
use Rattle.std.proofs.Common.{Ok}
use mathlib.Core.Path.{◌≡◌, refl, sym, ap, ◌∙◌, subst}
use mathlib.Core.Bool.{Bool, true, false, not, cond}
use mathlib.Core.List.{List}
use Prim.Native.Nat.{ℕ, zero, suc, ◌+◌, ◌≤◌, ◌<◌}
use native.Mathlib.Nat.{le_trans, le_of_eq}
use native.Mathlib.Numerals.{add-one}
use native.Mathlib.Omega.{arith}
use lib.Dec.{eqb, ltb}
use lib.ListN.{length, get_or}
use borrow.Author.Tests.{eq-eqb, le-leb, le-ltb}
use Rattle.num_float.proofs.Tests.{and_true}
use Rattle.list_laws.proofs.Below.{all_by, sum_none, sum_more}
use Rattle.file_field.specs.Test.{is_point, zero_words}
use Rattle.file_job_ok.specs.Rules.{job_good}
use Rattle.file_part.specs.Layout.{entry_at}
use Rattle.file_part.specs.Part.{count_at_of, part_of}
use Rattle.std.specs.Prelude.{⊤, Result, Ok, Err}
use Rattle.std.specs.Result.{result_and}
use Rattle.refusal.specs.declared.Refusal.{Refusal}
use Rattle.refusal.specs.declared.Refusal.TheVariants.{BadJob, BadVertex, FlatPolygon, TooManyFaces}
use Rattle.file_ok.specs.Rules.{vertex_good, vertices_good, surface_good, run_start, run_good, entry_good, polygon_good, polygons_good}
use Rattle.file_ok.specs.Verdict.{number, too_large, fitted, content_verdict, verdict_of}
use Rattle.solid_faces.specs.Faces.{some_flat, too_many_faces_of, body_verdict}
use Rattle.obj_text.specs.Text.{faces_of, corners_from, corners_of, vertex_of}
use Rattle.obj_text.proofs.BoundLaws.{corners_all}
use Rattle.obj_part.specs.File.{part_file, obj_refusal}
use Rattle.obj_laws.specs.Refusals.{corners_good, text_verdict, CanMeet, none, bad_job, bad_vertex, flat_polygon, too_many_faces}
use Rattle.obj_laws.proofs.FieldLaws.{entry_kind, entry_zero, entry_unused}
use Rattle.obj_laws.proofs.PlaceLaws.{Written, written, first_of, trailer, entry_place, job_place}
use Rattle.obj_laws.proofs.JobLaws.{all_same, job_good_in}
use Rattle.obj_laws.proofs.Polygons.{run_more, run_inside, bounded, file_length, file_edition, file_vertices, file_polygons, file_back, file_vertex, file_first, file_count}

-- a plane whose seven unused fields are zero
flat_good : (s : List ℕ) (at kind : ℕ) → kind ≡ 0 → zero_words s (at + 24) 7 ≡ true → surface_good kind s at ≡ true
unfolding surface_good
flat_good s at kind e h = rw (e, h)

module _ (text job : List ℕ) (w : Written text job) where
  -- ---- 7 is not met
  start_none : run_start (part_file text job) (length (corners_of text)) 0 ≡ first_of text 0
  unfolding run_start corners_from
  start_none = sum_none _

  start_next : (p : ℕ) → run_start (part_file text job) (length (corners_of text)) (p + 1)
      ≡ run_start (part_file text job) (length (corners_of text)) p + count_at_of (part_file text job) (entry_at (length (corners_of text)) p)
  unfolding run_start
  start_next p = sum_more p (λ q. count_at_of (part_file text job) (entry_at (length (corners_of text)) q))

  start_is : (p : ℕ) → p ≤ length (faces_of text) → run_start (part_file text job) (length (corners_of text)) p ≡ first_of text p
  start_is zero h = start_none
  start_is (suc p) h =
      let l : p < length (faces_of text) = omega (arith, h) in
      ap (run_start (part_file text job) (length (corners_of text))) (sym (add-one p))
      ∙ start_next p
      ∙ ap (λ (n : ℕ). n + count_at_of (part_file text job) (entry_at (length (corners_of text)) p)) (start_is p (omega (arith, h)))
      ∙ ap (λ (n : ℕ). first_of text p + n) (file_count text job w p l)
      ∙ sym (run_more text p l)
      ∙ ap (first_of text) (add-one p)

  module _ (p : ℕ) (h : p < length (faces_of text)) where
    abbrev at : ℕ
    at = entry_at (length (corners_of text)) p

    run_good_lem : run_good (part_file text job) (length (corners_of text)) at (run_start (part_file text job) (length (corners_of text)) p) ≡ true
    unfolding run_good
    run_good_lem =
        let start = start_is p (omega (arith, h)) in
        let count = file_count text job w p h in
        let b = bounded text job w p h in
        let end : run_start (part_file text job) (length (corners_of text)) p + count_at_of (part_file text job) at ≤ length (corners_of text) = omega (arith, start, count, run_inside text p h) in
        and_true _ _
        (and_true _ _
        (and_true _ _ (eq-eqb _ _ (file_first text job w p h ∙ sym start)) (le-leb _ _ (le_trans b.least (le_of_eq (sym count)))))
        (le-leb _ _ (le_trans (le_of_eq count) b.most)))
        (le-leb _ _ end)

    polygon_good_lem : polygon_good (part_file text job) (length (corners_of text)) p ≡ true
    unfolding polygon_good entry_good
    polygon_good_lem =
        let there = entry_place text job p h in
        and_true _ _
        (and_true _ _ run_good_lem (eq-eqb _ _ (entry_zero (part_file text job) _ at _ _ _ there)))
        (flat_good (part_file text job) at _ (entry_kind (part_file text job) _ at _ _ _ there) (entry_unused (part_file text job) _ at _ _ _ there))

  polygons_good_lem : polygons_good (part_file text job) (length (corners_of text)) (length (faces_of text)) ≡ true
  unfolding polygons_good
  polygons_good_lem =
      and_true _ _ (all_by (length (faces_of text)) (polygon_good (part_file text job) (length (corners_of text))) polygon_good_lem)
      (eq-eqb _ _ (start_is (length (faces_of text)) (le_of_eq refl) ∙ corners_all text))

  -- ---- 1 to 4 are not met
  long : ltb (length (part_file text job)) 144 ≡ false
  long = le-ltb (length (part_file text job)) 144 (omega (arith, file_length text job w))

  small : too_large (length (corners_of text)) (length (faces_of text)) ≡ false
  unfolding too_large
  small = rw (le-ltb 16384 (length (corners_of text)) w.vertices_to, le-ltb 4096 (length (faces_of text)) w.polygons_to_lem)

  fits : fitted (part_file text job) (length (corners_of text)) (length (faces_of text)) ≡ true
  unfolding fitted
  fits = and_true _ _ (eq-eqb _ _ (file_length text job w)) (eq-eqb _ _ (file_back text job w))

  -- ---- so 5 and 6 decide
  content_is : content_verdict (part_file text job) (length (corners_of text)) (length (faces_of text)) ≡
      cond (not (job_good (part_file text job) (entry_at (length (corners_of text)) (length (faces_of text))))) (Err BadJob)
      (cond (not (vertices_good (part_file text job) (length (corners_of text)))) (Err BadVertex) (Ok tt))
  unfolding content_verdict
  content_is = rw polygons_good_lem

  verdict_is : verdict_of (part_file text job) ≡ content_verdict (part_file text job) (length (corners_of text)) (length (faces_of text))
  unfolding verdict_of
  verdict_is = rw (long, eq-eqb _ _ (file_edition text job w), file_vertices text job w, file_polygons text job w, small, fits)

  vertices_are : vertices_good (part_file text job) (length (corners_of text)) ≡ corners_good text
  unfolding vertices_good vertex_good corners_good
  vertices_are =
      all_same (length (corners_of text)) (vertex_good (part_file text job)) (λ i. is_point (vertex_of text (get_or (corners_of text) i 0)))
      (λ i h. ap is_point (file_vertex text job w i h))

  written_verdict : verdict_of (part_file text job) ≡ text_verdict text job
  unfolding text_verdict
  written_verdict =
      verdict_is ∙ content_is ∙ rw (job_good_in (part_file text job) job (trailer text job) _ w.job_length (job_place text job), vertices_are)

-- ---- with the two tests of the body behind them
abbrev or_body : Result ⊤ Refusal → Bool → Bool → Result ⊤ Refusal
or_body v flat many = result_and v (cond flat (Err FlatPolygon) (cond many (Err TooManyFaces) (Ok tt)))

one_of : (job vertices flat many : Bool) → CanMeet (number (or_body (cond (not job) (Err BadJob) (cond (not vertices) (Err BadVertex) (Ok tt))) flat many))
unfolding number
one_of false vertices flat many = bad_job
one_of true false flat many = bad_vertex
one_of true true true many = flat_polygon
one_of true true false true = too_many_faces
one_of true true false false = none

body_is : (s : List ℕ) → body_verdict s ≡ or_body (verdict_of s) (some_flat (part_of s)) (too_many_faces_of (part_of s))
unfolding body_verdict
body_is s = refl

-- ---- where no refusal of item 1 is met, so that the file is written
-- 5 where the job given is out of its rules, else 6 where a corner is, and none of 1, 2, 3, 4 and 7
pub verdict_of_written : (text job : List ℕ) (room : ℕ) → obj_refusal text (length job) room ≡ Ok tt → verdict_of (part_file text job) ≡ text_verdict text job
verdict_of_written text job room h = written_verdict text job (written text job room h)

-- "The written file can meet 5, 6, 8 and 9 when it is checked"
pub can_meet : (text job : List ℕ) (room : ℕ) → obj_refusal text (length job) room ≡ Ok tt → CanMeet (number (body_verdict (part_file text job)))
unfolding text_verdict
can_meet text job room h =
    let s = part_file text job in
    subst (λ (v : Result ⊤ Refusal). CanMeet (number v))
    (sym (body_is s ∙ ap (λ (v : Result ⊤ Refusal). or_body v (some_flat (part_of s)) (too_many_faces_of (part_of s))) (verdict_of_written text job room h)))
    (one_of (job_good job 0) (corners_good text) (some_flat (part_of s)) (too_many_faces_of (part_of s)))
