-- What is known of a file that none of refusals 1 to 9 turns back, and the returns of the functions that judge one.
use mathlib.Core.Path.{◌≡◌, refl, sym, ap, ◌∙◌, subst}
use mathlib.Core.Bool.{Bool, true, false, not, cond}
use mathlib.Core.List.{List}
use Prim.Native.Nat.{ℕ, zero, suc, ◌+◌, ◌*◌, ◌≤◌, ◌<◌}
use native.Mathlib.Omega.{arith}
use native.Mathlib.Nat.{le_antisymm}
use lib.Dec.{eqb, leb, ltb}
use lib.ListN.{length}
use lib.Ieee.{Float}
use borrow.Author.Tests.{not-true, not-false, eqb-true, eq-eqb, ne_eqb, leb-true, leb-false, ltb-false, lt-ltb, le-ltb}
use Rattle.num_float.proofs.Tests.{contrary}
use Rattle.list_laws.specs.Below.{all_below, sum_below}
use Rattle.list_laws.proofs.Below.{all_none, all_more, all_each, all_fails}
use Rattle.solid_polygon.specs.file_part.specs.declared.read.FaceId.{FaceId}
use Rattle.std.specs.Prelude.{⊤, Result, Ok, Err}
use Rattle.std.specs.Result.{result_and}
use Rattle.refusal.specs.declared.Refusal.{Refusal}
use Rattle.refusal.specs.declared.Refusal.TheVariants.{FlatPolygon, TooManyFaces}
use Rattle.solid_polygon.specs.file_part.specs.Layout.{vertex_count_of, polygon_count_of, entry_at}
use Rattle.solid_polygon.specs.file_part.specs.Part.{Part, face_at, first_at, count_at_of, polygon_at, part_of}
use Rattle.file_ok.specs.Rules.{run_start}
use Rattle.file_ok.specs.Verdict.{verdict_of}
use Rattle.file_ok.specs.Work.{Readable}
use Rattle.solid_polygon.specs.file_part.proofs.PartLaws.{part_polygons}
use Rattle.file_ok.proofs.ReadableLaws.{readable_length, readable_counts, readable_run, readable_whole, readable_vertex, readable_index}
use Rattle.solid_polygon.specs.declared.polygon.Plane.{Plane}
use Rattle.solid_polygon.specs.Polygon.{area_of_word}
use Rattle.solid_polygon.specs.Work.{corner_at, Corners}
use Rattle.solid_polygon.specs.Plane.{is_flat, plane_of}
use Rattle.solid_faces.specs.Faces.{faces_of, face_number, polygon_corner, polygon_flat, polygon_plane, polygon_area, some_flat, too_many_faces_of, body_verdict, Checked}
use Rattle.solid_faces.proofs.FaceLaws.{number_below}

-- ---- where a polygon's entry and its run stand, in the words of the functions that read them
pub readable_long : (s : List ℕ) → Readable s → 16 ≤ length s
readable_long s h = omega (arith, readable_length s h)

pub record EntryRoom (s : List ℕ) (v p : ℕ) : Type 0 where
  pub vertices : v ≤ 16384
  pub polygon : p ≤ 4096
  pub inside : entry_at v p + 80 ≤ length s

pub entry_room : (s : List ℕ) (v m p : ℕ) → Readable s → v ≡ vertex_count_of s → m ≡ polygon_count_of s → p < m → EntryRoom s v p
entry_room s v m p h a b l =
    let few = readable_counts s h in
    record { vertices = omega (arith, few.0, a); polygon = omega (arith, few.1, b, l); inside = omega (arith, readable_length s h, a, b, l) }

-- the run lies inside the file, and has 3 to 64 vertices
pub record RunRoom (s : List ℕ) (first n : ℕ) : Type 0 where
  pub inside : 24 * (first + n) ≤ length s
  pub least : 3 ≤ n
  pub most : n ≤ 64

pub run_room : (s : List ℕ) (v m p first n : ℕ) → Readable s → v ≡ vertex_count_of s → m ≡ polygon_count_of s → p < m →
    first ≡ first_at s (entry_at v p) → n ≡ count_at_of s (entry_at v p) → RunRoom s first n
run_room s v m p first n h a b l e q =
    let r = readable_run s h p (omega (arith, b, l)) in
    let f : first ≡ first_at s (entry_at (vertex_count_of s) p) = e ∙ ap (λ (k : ℕ). first_at s (entry_at k p)) a in
    let c : n ≡ count_at_of s (entry_at (vertex_count_of s) p) = q ∙ ap (λ (k : ℕ). count_at_of s (entry_at k p)) a in
    record { inside = omega (arith, readable_length s h, r.first, r.inside, f, c); least = omega (arith, r.least, c); most = omega (arith, r.most, c) }

-- a polygon's corners, by its run in the file
pub run_corners : (s : List ℕ) (v m p at first n : ℕ) → Readable s → v ≡ vertex_count_of s → m ≡ polygon_count_of s → p < m → at ≡ entry_at v p →
    first ≡ first_at s at → n ≡ count_at_of s at → Corners s first n
run_corners s v m p at first n h a b l i e q =
    let place : at ≡ entry_at (vertex_count_of s) p = i ∙ ap (λ (k : ℕ). entry_at k p) a in
    let f : first ≡ first_at s (entry_at (vertex_count_of s) p) = rw place at e in
    let c : n ≡ count_at_of s (entry_at (vertex_count_of s) p) = rw place at q in
    record {
      inside = (run_room s v m p first n h a b l (rw i at e) (rw i at q)).inside;
      each = λ k low. readable_vertex s h (first + k) (omega (arith, f, readable_index s h p (omega (arith, b, l)) k (omega (arith, c, low))));
    }

-- each polygon has three vertices at least
runs_three : (s : List ℕ) → Readable s → (p : ℕ) → p ≤ polygon_count_of s → 3 * p ≤ run_start s (vertex_count_of s) p
unfolding run_start sum_below
runs_three s h zero l = omega arith
runs_three s h (suc p) l = omega (arith, runs_three s h p (omega (arith, l)), (readable_run s h p (omega (arith, l))).least)

pub three_vertices : (s : List ℕ) → Readable s → 3 * polygon_count_of s ≤ vertex_count_of s
three_vertices s h = omega (arith, runs_three s h (polygon_count_of s) (omega arith), readable_whole s h)

-- the part's polygon in the words of the functions on a run
pub run_flat : (s : List ℕ) (v p at first n : ℕ) (b : Bool) → v ≡ vertex_count_of s → at ≡ entry_at v p → first ≡ first_at s at → n ≡ count_at_of s at →
    b ≡ is_flat (corner_at s first) n → b ≡ polygon_flat (part_of s) p
unfolding polygon_flat polygon_corner part_of polygon_at corner_at
run_flat s v p at first n b a i e q h = h ∙ rw (e, q, i, a)

pub run_plane : (s : List ℕ) (v p at first n : ℕ) (x : Plane) → v ≡ vertex_count_of s → at ≡ entry_at v p → first ≡ first_at s at → n ≡ count_at_of s at →
    x ≡ plane_of (corner_at s first) n → x ≡ polygon_plane (part_of s) p
unfolding polygon_plane polygon_corner part_of polygon_at corner_at
run_plane s v p at first n x a i e q h = h ∙ rw (e, q, i, a)

pub run_area : (s : List ℕ) (v p at first n : ℕ) (x : Float) → v ≡ vertex_count_of s → at ≡ entry_at v p → first ≡ first_at s at → n ≡ count_at_of s at →
    x ≡ area_of_word (corner_at s first) n → x ≡ polygon_area (part_of s) p
unfolding polygon_area polygon_corner part_of polygon_at corner_at
run_area s v p at first n x a i e q h = h ∙ rw (e, q, i, a)

-- the face of an entry
pub face_is : (s : List ℕ) (v p at : ℕ) (a : FaceId) → v ≡ vertex_count_of s → at ≡ entry_at v p → a ≡ face_at s at → a ≡ ((part_of s).polygon p).face
unfolding part_of polygon_at
face_is s v p at a e k x = x ∙ rw (k, e)

-- the part's polygons, counted from the file
pub polygons_are : (s : List ℕ) (m : ℕ) → m ≡ polygon_count_of s → m ≡ (part_of s).polygons
polygons_are s m e = e ∙ sym (part_polygons s)

pub within : (s : List ℕ) (p : ℕ) → p < polygon_count_of s → p < (part_of s).polygons
within s p l = omega (arith, l, part_polygons s)

pub inside : (s : List ℕ) (p : ℕ) → p < polygon_count_of s → p ≤ (part_of s).polygons
inside s p l = omega (arith, l, part_polygons s)

-- ---- refusal 8: the loop over the polygons
abbrev pub NoneFlat : Part → ℕ → Type 0
NoneFlat t p = all_below p (λ q. not (polygon_flat t q)) ≡ true

pub flat_none : (t : Part) → NoneFlat t 0
flat_none t = all_none (λ q. not (polygon_flat t q))

pub flat_more : (t : Part) (p : ℕ) (b : Bool) → b ≡ polygon_flat t p → b ≡ false → NoneFlat t p → NoneFlat t (p + 1)
flat_more t p b e f h = all_more p (λ q. not (polygon_flat t q)) h (ap not (sym e ∙ f))

pub flat_found : (t : Part) (p P : ℕ) (b : Bool) → P ≡ t.polygons → p < P → b ≡ polygon_flat t p → b ≡ true → true ≡ some_flat t
unfolding some_flat
flat_found t p P b same l e h =
    sym (ap not (all_fails t.polygons (λ q. not (polygon_flat t q)) p (omega (arith, l, same)) (ap not (sym e ∙ h))))

pub flat_all : (t : Part) (p P : ℕ) → P ≡ t.polygons → p ≤ P → P ≤ p → NoneFlat t p → false ≡ some_flat t
unfolding some_flat
flat_all t p P same a b h = sym (ap not (subst (NoneFlat t) (le_antisymm a b ∙ same) h))

-- ---- the verdict, return by return
pub body_refused : (s : List ℕ) (r : Refusal) → verdict_of s ≡ Err r → Err r ≡ body_verdict s
unfolding body_verdict
body_refused s r e = rw e

pub body_flat : (s : List ℕ) (b : Bool) → Readable s → b ≡ some_flat (part_of s) → b ≡ true → Err FlatPolygon ≡ body_verdict s
unfolding body_verdict Readable
body_flat s b h e t = rw (h, ← e, t)

many : (n m : ℕ) → leb n m ≡ false → ltb m n ≡ true
many n m h = lt-ltb _ _ (leb-false n m h)

few : (n m : ℕ) → leb n m ≡ true → ltb m n ≡ false
few n m h = le-ltb _ _ (leb-true n m h)

pub body_many : (s : List ℕ) (b few : Bool) → Readable s → b ≡ some_flat (part_of s) → b ≡ false → few ≡ leb (faces_of (part_of s)) 1024 → not few ≡ true →
    Err TooManyFaces ≡ body_verdict s
unfolding body_verdict Readable too_many_faces_of
body_many s b k h e f q t = rw (h, ← e, f, many (faces_of (part_of s)) 1024 (sym q ∙ not-true k t))

pub body_accepted : (s : List ℕ) (b few : Bool) → Readable s → b ≡ some_flat (part_of s) → b ≡ false → few ≡ leb (faces_of (part_of s)) 1024 → not few ≡ false →
    Ok tt ≡ body_verdict s
unfolding body_verdict Readable too_many_faces_of
body_accepted s b k h e f q t = rw (h, ← e, f, few (faces_of (part_of s)) 1024 (sym q ∙ not-false k t))

-- ---- what acceptance says
split : (v : Result ⊤ Refusal) (flat many : Bool) → result_and {U = ⊤} v (cond flat (Err FlatPolygon) (cond many (Err TooManyFaces) (Ok tt))) ≡ Ok tt →
    (v ≡ Ok tt) × (flat ≡ false) × (many ≡ false)
split (Ok u) true many h = (cc)
split (Ok u) false true h = (cc)
split (Ok u) false false h = (refl, refl, refl)
split (Err r) flat many h = (cc)

checked : (s : List ℕ) → Checked s → (verdict_of s ≡ Ok tt) × (some_flat (part_of s) ≡ false) × (too_many_faces_of (part_of s) ≡ false)
unfolding Checked body_verdict
checked s h = split (verdict_of s) (some_flat (part_of s)) (too_many_faces_of (part_of s)) h

pub checked_readable : (s : List ℕ) → Checked s → Readable s
unfolding Readable
checked_readable s h = (checked s h).0

pub checked_faces : (s : List ℕ) → Checked s → faces_of (part_of s) ≤ 1024
unfolding too_many_faces_of
checked_faces s h = ltb-false _ _ (checked s h).2

pub checked_flat : (s : List ℕ) → Checked s → (p : ℕ) → p < polygon_count_of s → polygon_flat (part_of s) p ≡ false
unfolding some_flat
checked_flat s h p l =
    not-true _ (all_each (part_of s).polygons (λ q. not (polygon_flat (part_of s) q)) (not-false _ (checked s h).1) p (omega (arith, l, part_polygons s)))

-- ---- room for the faces
-- the number of a polygon's face
pub number_room : (s : List ℕ) (m p f k : ℕ) → m ≡ polygon_count_of s → p < m → f ≡ face_number (part_of s) p → faces_of (part_of s) ≤ k → f < k
number_room s m p f k a l e room = omega (arith, e, room, number_below (part_of s) p (omega (arith, l, a, part_polygons s)))

pub checked_number : (s : List ℕ) (m p f : ℕ) → Checked s → m ≡ polygon_count_of s → p < m → f ≡ face_number (part_of s) p → f < 1024
checked_number s m p f h a l e = number_room s m p f 1024 a l e (checked_faces s h)
