-- What the lent slices of an accepted file hold, in the words of the functions that read them.
use mathlib.Core.Path.{◌≡◌, sym, ap, ◌∙◌, subst}
use mathlib.Core.Logic.{◌⊎◌, inl, inr}
use mathlib.Core.List.{List}
use Prim.Native.Nat.{ℕ, zero, suc, ◌+◌, ◌*◌, ◌≤◌, ◌<◌}
use native.Mathlib.Numerals.{add-one}
use native.Mathlib.Omega.{arith}
use lib.ListN.{length, get_or}
use Rattle.num_float.proofs.Tests.{lt_or_ge}
use Rattle.list_laws.proofs.Below.{sum_none}
use Rattle.file_part.specs.Layout.{vertex_count_of, polygon_count_of, entry_at}
use Rattle.file_part.specs.Part.{Part, count_at_of, part_of}
use Rattle.file_ok.specs.Rules.{run_start}
use Rattle.file_ok.specs.Work.{Readable}
use Rattle.file_part.proofs.PartLaws.{part_vertices, part_polygons}
use Rattle.file_ok.proofs.ReadableLaws.{readable_length, readable_counts, readable_whole}
use Rattle.solid_segments.specs.Sides.{owner_of, to_of}
use Rattle.solid_segments.proofs.RunLaws.{to_inside}
use Rattle.solid_segments.proofs.RunLaws as runs
use Rattle.solid_faces.specs.Faces.{faces_of, face_number}
use Rattle.solid_faces.proofs.FaceLaws.{number_below}
use Rattle.solid_ids.proofs.KnownLaws.{known_readable}
use Rattle.solid_edges.specs.Edges.{pair_in, face_of_side}
use Rattle.solid_edges.specs.Work.{Lent}

-- ---- the run that a side is in
record InRun (file : List ℕ) (s : ℕ) : Type 0 where
  polygon : ℕ
  below : polygon < polygon_count_of file
  from : run_start file (vertex_count_of file) polygon ≤ s
  to : s < run_start file (vertex_count_of file) (polygon + 1)

start_none : (file : List ℕ) → run_start file (vertex_count_of file) 0 ≡ 0
unfolding run_start
start_none file = sum_none (λ q. count_at_of file (entry_at (vertex_count_of file) q))

in_run : (file : List ℕ) (s n : ℕ) → n ≤ polygon_count_of file → s < run_start file (vertex_count_of file) n → InRun file s
in_run file s zero few l = absurd (omega (arith, l, start_none file))
in_run file s (suc n) few l = go (in_run file s n (omega (arith, few))) (lt_or_ge s (run_start file (vertex_count_of file) n))
  where
    go : (s < run_start file (vertex_count_of file) n → InRun file s) →
        (s < run_start file (vertex_count_of file) n) ⊎ (run_start file (vertex_count_of file) n ≤ s) → InRun file s
    go before (inl lower) = before lower
    go before (inr here) =
        record {
          polygon = n;
          below = omega (arith, few);
          from = here;
          to = subst (λ (k : ℕ). s < run_start file (vertex_count_of file) k) (sym (add-one n)) l;
        }

run_of : (file : List ℕ) → Readable file → (s : ℕ) → s < vertex_count_of file → InRun file s
run_of file h s l = in_run file s (polygon_count_of file) (omega arith) (omega (arith, l, readable_whole file h))

pub owner_below : (file : List ℕ) → Readable file → (s : ℕ) → s < vertex_count_of file → owner_of (part_of file) s < polygon_count_of file
owner_below file h s l =
    let r = run_of file h s l in
    omega (arith, r.below, runs.owner_is file h r.polygon s r.below r.from r.to)

pub end_below : (file : List ℕ) → Readable file → (s : ℕ) → s < vertex_count_of file → to_of (part_of file) s < vertex_count_of file
end_below file h s l =
    let r = run_of file h s l in
    to_inside file h r.polygon s r.below r.from r.to

-- the face of a side is one of the faces
pub face_below : (file : List ℕ) → Readable file → (s : ℕ) → s < vertex_count_of file → face_of_side (part_of file) s < faces_of (part_of file)
unfolding face_of_side
face_below file h s l = number_below (part_of file) (owner_of (part_of file) s) (omega (arith, owner_below file h s l, part_polygons file))

-- ---- the file
pub lent_readable : {file sides faces : List ℕ} → Lent file sides faces → Readable file
lent_readable h = known_readable h.faced

pub few_vertices : {file sides faces : List ℕ} → Lent file sides faces → vertex_count_of file ≤ 16384
few_vertices {file} h = (readable_counts file (lent_readable h)).0

pub vertex_room : {file sides faces : List ℕ} → Lent file sides faces → (i : ℕ) → i < vertex_count_of file → 24 * i + 24 ≤ length file
vertex_room {file} h i l = omega (arith, l, readable_length file (lent_readable h))

-- ---- the cells of a side
module _ {file sides faces : List ℕ} (lent : Lent file sides faces) (s : ℕ) (low : s < vertex_count_of file) where
  abbrev t : Part
  t = part_of file

  side_in : s < t.vertices
  side_in = omega (arith, low, part_vertices file)

  pub side_room : s * 3 + 3 ≤ length sides
  side_room = omega (arith, side_in, lent.shared.long)

  pub pair_is : (r : ℕ) → r ≡ get_or sides (s * 3 + 2) 0 → r ≡ pair_in t s
  unfolding pair_in
  pair_is r e = e ∙ lent.shared.pairs s side_in

  pub end_is : (r : ℕ) → r ≡ get_or sides (s * 3) 0 → r ≡ to_of t s
  end_is r e = e ∙ lent.shared.ends s side_in

  pub end_in : (r : ℕ) → r ≡ get_or sides (s * 3) 0 → r < vertex_count_of file
  end_in r e = omega (arith, end_is r e, end_below file (lent_readable lent) s low)

  pub owner_same : (p : ℕ) → p ≡ get_or sides (s * 3 + 1) 0 → p ≡ owner_of t s
  owner_same p e = e ∙ lent.shared.owners s side_in

  pub owner_in : (p : ℕ) → p ≡ get_or sides (s * 3 + 1) 0 → p < polygon_count_of file
  owner_in p e = omega (arith, owner_same p e, owner_below file (lent_readable lent) s low)

  pub owner_is : (p : ℕ) → p ≡ get_or sides (s * 3 + 1) 0 → (p ≡ owner_of t s) × (p < polygon_count_of file)
  owner_is p e = (owner_same p e, owner_in p e)

  owner_known : (p : ℕ) → p ≡ owner_of t s → p < t.polygons
  owner_known p e = omega (arith, e, owner_below file (lent_readable lent) s low, part_polygons file)

  pub owner_room : (p : ℕ) → p ≡ owner_of t s → p < length faces
  owner_room p e = omega (arith, owner_known p e, lent.faced.long)

  pub face_is : (p r : ℕ) → p ≡ owner_of t s → r ≡ get_or faces p 0 → r ≡ face_of_side t s
  unfolding face_of_side
  face_is p r e q = q ∙ lent.faced.known.numbers.each p (owner_known p e) ∙ ap (face_number t) e
