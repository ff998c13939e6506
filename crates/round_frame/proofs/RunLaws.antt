-- The loops over a polygon's corners, one step each, and a run of the file as a polygon of the part.
use mathlib.Core.Path.{◌≡◌, refl, sym, ap, ◌∙◌, subst}
use mathlib.Core.List.{List, ◌++◌}
use Prim.Native.Nat.{ℕ, ◌+◌, ◌*◌, ◌≤◌, ◌<◌}
use native.Mathlib.Numerals.{add-one}
use native.Mathlib.Nat.{le_antisymm}
use native.Mathlib.Omega.{arith}
use lib.ListN.{length}
use lib.Ieee.{Float}
use Rattle.math.specs.declared.Vec3.{Vec3}
use Rattle.file_field.specs.Field.{vec_at_of}
use Rattle.file_part.specs.Layout.{vertex_count_of, polygon_count_of, entry_at}
use Rattle.file_part.specs.Part.{Part, first_at, count_at_of, polygon_at, part_of}
use Rattle.file_part.proofs.PartLaws.{part_polygons}
use Rattle.file_ok.specs.Rules.{run_start}
use Rattle.file_ok.specs.Work.{Readable}
use Rattle.file_ok.proofs.PolygonLaws.{start_more}
use Rattle.file_ok.proofs.ReadableLaws.{readable_run}
use Rattle.solid_polygon.specs.Polygon.{centroid_of}
use Rattle.solid_polygon.specs.Work.{corner_at, Corners}
use Rattle.solid_faces.specs.Faces.{polygon_corner, polygon_plane, polygon_area}
use Rattle.solid_faces.proofs.BodyLaws.{EntryRoom, entry_room, RunRoom, run_room, run_corners}
use Rattle.round_hole.specs.declared.direction.Direction.{Direction}
use Rattle.round_frame.specs.declared.frame.Frame.{Frame}
use Rattle.round_frame.specs.declared.extent.Extent.{Extent}
use Rattle.round_frame.specs.Frame.{height_of, reach, run_extent, vote_of, run_directions}
use Rattle.round_frame.specs.Polygons.{polygon_vote}

-- ---- the extent
pub extent_none : (s : List ℕ) (first : ℕ) (a : Frame) (e : Extent) → e ≡ run_extent a (corner_at s first) e 0
unfolding run_extent
extent_none s first a e = refl

pub extent_more : (s : List ℕ) (first k : ℕ) (a : Frame) (e x r : Extent) (v : Vec3) (h : Float) → x ≡ run_extent a (corner_at s first) e k →
    v ≡ vec_at_of s (24 * (first + k)) → h ≡ height_of a v → r ≡ reach x h → r ≡ run_extent a (corner_at s first) e (k + 1)
unfolding run_extent corner_at
extent_more s first k a e x r v h i j l m = m ∙ rw (l, j, i, add-one)

pub extent_all : (s : List ℕ) (first n k : ℕ) (a : Frame) (e x : Extent) → k ≤ n → n ≤ k → x ≡ run_extent a (corner_at s first) e k →
    x ≡ run_extent a (corner_at s first) e n
extent_all s first n k a e x l m h = subst (λ (j : ℕ). x ≡ run_extent a (corner_at s first) e j) (le_antisymm l m) h

-- ---- polygon q of the part, as it is read from the file
pub polygon_low : (s : List ℕ) (p q : ℕ) → p ≡ polygon_count_of s → q < p → q < (part_of s).polygons
polygon_low s p q e l = omega (arith, part_polygons s)

pub entry_of : (s : List ℕ) (v q : ℕ) → Readable s → v ≡ vertex_count_of s → q < (part_of s).polygons → EntryRoom s v q
entry_of s v q h e low = entry_room s v (part_of s).polygons q h e (part_polygons s) low

pub entry_inside : (s : List ℕ) (v q at : ℕ) → Readable s → v ≡ vertex_count_of s → q < (part_of s).polygons → at ≡ entry_at v q → at + 80 ≤ length s
entry_inside s v q at h e low place = omega (arith, (entry_of s v q h e low).inside)

module _ (s : List ℕ) (v q at first n : ℕ) (readable : Readable s) (ev : v ≡ vertex_count_of s) (low : q < (part_of s).polygons) (place : at ≡ entry_at v q)
    (ef : first ≡ first_at s at) (en : n ≡ count_at_of s at) where
  pub run_of : RunRoom s first n
  run_of =
      run_room s v (part_of s).polygons q first n readable ev (part_polygons s) low (ef ∙ ap (first_at s) place) (en ∙ ap (count_at_of s) place)

  pub corners_of_lem : Corners s first n
  corners_of_lem = run_corners s v (part_of s).polygons q at first n readable ev (part_polygons s) low place ef en

  -- what it begins with, and where it ends: the runs before it have as many vertices as its first one's number says
  pub run_starts : first ≡ run_start s v q
  run_starts =
      let is : first ≡ first_at s (entry_at (vertex_count_of s) q) = ef ∙ ap (first_at s) place ∙ ap (λ (k : ℕ). first_at s (entry_at k q)) ev in
      is ∙ (readable_run s readable q (omega (arith, part_polygons s))).first ∙ sym (ap (λ (k : ℕ). run_start s k q) ev)

  pub run_ends : run_start s v q + n ≡ run_start s v (q + 1)
  run_ends = start_more s v q (run_start s v q) n refl (en ∙ ap (count_at_of s) place)

  pub run_inside : first + n ≤ v
  run_inside =
      let r = readable_run s readable q (omega (arith, part_polygons s)) in
      let many : n ≡ count_at_of s (entry_at (vertex_count_of s) q) = en ∙ ap (count_at_of s) place ∙ ap (λ (k : ℕ). count_at_of s (entry_at k q)) ev in
      let begin : run_start s v q ≡ run_start s (vertex_count_of s) q = ap (λ (k : ℕ). run_start s k q) ev in
      omega (arith, run_starts, r.inside, many)

  -- the functions on a run, said of the polygon
  pub run_extent_lem : (a : Frame) (e r : Extent) → r ≡ run_extent a (corner_at s first) e n →
      r ≡ run_extent a (polygon_corner (part_of s) q) e ((part_of s).polygon q).count
  unfolding polygon_corner part_of polygon_at corner_at
  run_extent_lem a e r h = h ∙ rw (ef, en, place, ev)

  pub run_centroid : (r : Vec3) → r ≡ centroid_of (corner_at s first) n → r ≡ centroid_of (polygon_corner (part_of s) q) ((part_of s).polygon q).count
  unfolding polygon_corner part_of polygon_at corner_at
  run_centroid r h = h ∙ rw (ef, en, place, ev)

  pub run_directions_lem : (a : Frame) (before r : List Direction) → r ≡ before ++ run_directions a (corner_at s first) n →
      r ≡ before ++ run_directions a (polygon_corner (part_of s) q) ((part_of s).polygon q).count
  unfolding polygon_corner part_of polygon_at corner_at
  run_directions_lem a before r h = h ∙ rw (ef, en, place, ev)

-- ---- the vote
pub run_vote : (t : Part) (a : Frame) (q : ℕ) (normal c : Vec3) (area r : Float) → normal ≡ (polygon_plane t q).normal → area ≡ polygon_area t q →
    c ≡ centroid_of (polygon_corner t q) (t.polygon q).count → r ≡ vote_of a normal c area → r ≡ polygon_vote t a q
unfolding polygon_vote
run_vote t a q normal c area r i j k h = h ∙ rw (i, j, k)
