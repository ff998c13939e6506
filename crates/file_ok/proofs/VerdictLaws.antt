-- The verdict, return by return, in the words of the code's tests.
use mathlib.Core.Path.{◌≡◌, refl}
use mathlib.Core.Bool.{Bool, true, false, not, ◌&&◌, ◌||◌, cond}
use mathlib.Core.List.{List}
use Prim.Native.Nat.{ℕ, ◌+◌, ◌-◌, ◌*◌, ◌≤◌, ◌<◌}
use lib.Dec.{eqb, ltb}
use lib.ListN.{length}
use borrow.Author.Tests.{not-false, lt-ltb, le-ltb, ltb-false, eq-eqb, ne_eqb, eqb-true}
use Rattle.num_float.proofs.Tests.{or_false_left, or_false_right}
use Rattle.file_part.specs.file_field.specs.Field.{u32_at}
use Rattle.file_job_ok.specs.Rules.{job_good}
use Rattle.std.specs.Prelude.{⊤, Result, Ok, Err}
use Rattle.refusal.specs.declared.Refusal.{Refusal}
use Rattle.refusal.specs.declared.Refusal.TheVariants.{TooShort, WrongEdition, TooLarge, WrongLength, BadJob, BadVertex, BadPolygon}
use Rattle.file_part.specs.Layout.{edition, vertex_count_of, polygon_count_of, back, entry_at, size_of}
use Rattle.file_ok.specs.Rules.{vertices_good, polygons_good}
use Rattle.file_ok.specs.Verdict.{too_large, fitted, content_verdict, verdict_of}

-- ---- 5 to 7
pub content_job : (s : List ℕ) (v p at : ℕ) (j : Bool) → at ≡ entry_at v p → j ≡ job_good s at → not j ≡ true → Err BadJob ≡ content_verdict s v p
unfolding content_verdict
content_job s v p at j i e h = rw (← i, ← e, h)

pub content_vertex : (s : List ℕ) (v p at : ℕ) (j a : Bool) →
    at ≡ entry_at v p → j ≡ job_good s at → not j ≡ false → a ≡ vertices_good s v → not a ≡ true → Err BadVertex ≡ content_verdict s v p
unfolding content_verdict
content_vertex s v p at j a i e h f k = rw (← i, ← e, h, ← f, k)

pub content_polygon : (s : List ℕ) (v p at : ℕ) (j a b r : Bool) → r ≡ not b →
    at ≡ entry_at v p → j ≡ job_good s at → not j ≡ false → a ≡ vertices_good s v → not a ≡ false → b ≡ polygons_good s v p → cond r (Err BadPolygon) (Ok tt) ≡ content_verdict s v p
unfolding content_verdict
content_polygon s v p at j a b r z i e h f k g = rw (← i, ← e, h, ← f, k, ← g, z)

-- ---- what the tests of 3 and 4 leave
pub small : (v p : ℕ) → (ltb 16384 v || ltb 4096 p) ≡ false → (v ≤ 16384) × (p ≤ 4096)
small v p h = (ltb-false _ _ (or_false_left (ltb 16384 v) (ltb 4096 p) h), ltb-false _ _ (or_false_right (ltb 16384 v) (ltb 4096 p) h))

pub sized : (n m b k : ℕ) → (not (eqb n m) || not (eqb b k)) ≡ false → (n ≡ m) × (b ≡ k)
sized n m b k h =
    (eqb-true _ _ (not-false _ (or_false_left (not (eqb n m)) (not (eqb b k)) h)), eqb-true _ _ (not-false _ (or_false_right (not (eqb n m)) (not (eqb b k)) h)))

-- ---- 1 to 4
pub verdict_short : (s : List ℕ) → length s < 144 → Err TooShort ≡ verdict_of s
unfolding verdict_of
verdict_short s h = rw (lt-ltb _ _ h)

-- what is known once the length, the edition and the counts have passed
pub record Passed (s : List ℕ) (e v p : ℕ) : Type 0 where
  pub long : 144 ≤ length s
  pub edition_is : e ≡ u32_at s (length s - 16)
  pub first : e ≡ 1
  pub vertices_is : v ≡ vertex_count_of s
  pub polygons_is : p ≡ polygon_count_of s

pub verdict_edition : (s : List ℕ) (e : ℕ) → 144 ≤ length s → e ≡ u32_at s (length s - 16) → (e ≡ 1 → ⊥) → Err WrongEdition ≡ verdict_of s
unfolding verdict_of edition
verdict_edition s e h q f = rw (le-ltb _ _ h, ← q, ne_eqb _ _ f)

pub verdict_large : (s : List ℕ) (e v p : ℕ) → Passed s e v p → (ltb 16384 v || ltb 4096 p) ≡ true → Err TooLarge ≡ verdict_of s
unfolding verdict_of edition too_large
verdict_large s e v p c t = rw (le-ltb _ _ c.long, ← c.edition_is, eq-eqb _ _ c.first, ← c.vertices_is, ← c.polygons_is, t)

pub verdict_length : (s : List ℕ) (e v p b : ℕ) → Passed s e v p → (ltb 16384 v || ltb 4096 p) ≡ false → b ≡ u32_at s (length s - 4) →
    (not (eqb (length s) (size_of v p)) || not (eqb b (80 * p + 144))) ≡ true → Err WrongLength ≡ verdict_of s
unfolding verdict_of edition too_large fitted back
verdict_length s e v p b c t q f =
    rw (le-ltb _ _ c.long, ← c.edition_is, eq-eqb _ _ c.first, ← c.vertices_is, ← c.polygons_is, t, ← q, both (eqb (length s) (size_of v p)) (eqb b (80 * p + 144)) f)
  where
    both : (x y : Bool) → (not x || not y) ≡ true → not (x && y) ≡ true
    both true y h = h
    both false y h = refl

pub verdict_content : (s : List ℕ) (e v p b : ℕ) (r : Result ⊤ Refusal) → Passed s e v p → (ltb 16384 v || ltb 4096 p) ≡ false → b ≡ u32_at s (length s - 4) →
    (not (eqb (length s) (size_of v p)) || not (eqb b (80 * p + 144))) ≡ false → r ≡ content_verdict s v p → r ≡ verdict_of s
unfolding verdict_of edition too_large fitted back
verdict_content s e v p b r c t q f h =
    rw (le-ltb _ _ c.long, ← c.edition_is, eq-eqb _ _ c.first, ← c.vertices_is, ← c.polygons_is, t, ← q, eq-eqb _ _ (sized (length s) (size_of v p) b (80 * p + 144) f).0, eq-eqb _ _ (sized (length s) (size_of v p) b (80 * p + 144) f).1, h)
