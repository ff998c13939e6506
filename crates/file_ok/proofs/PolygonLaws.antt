-- The loops over all vertices and over all polygons, one step each.
use mathlib.Core.Path.{◌≡◌, sym, ap, ◌∙◌, subst}
use mathlib.Core.Bool.{Bool, true, false, ◌&&◌}
use mathlib.Core.List.{List}
use Prim.Native.Nat.{ℕ, ◌+◌, ◌*◌, ◌≤◌, ◌<◌}
use native.Mathlib.Nat.{le_antisymm}
use lib.Dec.{eqb, leb}
use borrow.Author.Tests.{leb-true}
use Rattle.num_float.proofs.Tests.{and_left, and_right, and_false_left}
use Rattle.list_laws.specs.Below.{all_below}
use Rattle.list_laws.proofs.Below.{all_none, all_more, all_fails, sum_none, sum_more}
use Rattle.file_part.specs.math.specs.declared.Vec3.{Vec3}
use Rattle.file_part.specs.file_field.specs.Field.{u32_at, vec_at_of}
use Rattle.file_part.specs.file_field.specs.Test.{is_point}
use Rattle.file_part.specs.Layout.{entry_at}
use Rattle.file_part.specs.Part.{first_at, count_at_of}
use Rattle.file_ok.specs.Rules.{vertex_good, vertices_good, surface_good, run_start, run_good, entry_good, polygon_good, polygons_good}

-- ---- vertices
pub vertices_none : (s : List ℕ) → vertices_good s 0 ≡ true
unfolding vertices_good
vertices_none s = all_none (vertex_good s)

pub vertices_more : (s : List ℕ) (i : ℕ) (x : Vec3) (b : Bool) →
    x ≡ vec_at_of s (24 * i) → b ≡ is_point x → b ≡ true → vertices_good s i ≡ true → vertices_good s (i + 1) ≡ true
unfolding vertices_good vertex_good
vertices_more s i x b e q t h = all_more i (vertex_good s) h (ap is_point (sym e) ∙ sym q ∙ t)

pub vertices_fail : (s : List ℕ) (v i : ℕ) (x : Vec3) (b : Bool) →
    x ≡ vec_at_of s (24 * i) → b ≡ is_point x → b ≡ false → i < v → false ≡ vertices_good s v
unfolding vertices_good vertex_good
vertices_fail s v i x b e q f l = sym (all_fails v (vertex_good s) i l (ap is_point (sym e) ∙ sym q ∙ f))

pub vertices_all : (s : List ℕ) (v i : ℕ) → i ≤ v → v ≤ i → vertices_good s i ≡ true → true ≡ vertices_good s v
vertices_all s v i a b h = sym (subst (λ (k : ℕ). vertices_good s k ≡ true) (le_antisymm a b) h)

-- ---- polygons
pub start_none : (s : List ℕ) (v : ℕ) → 0 ≡ run_start s v 0
unfolding run_start
start_none s v = sym (sum_none _)

pub start_more : (s : List ℕ) (v p first n : ℕ) → first ≡ run_start s v p → n ≡ count_at_of s (entry_at v p) → first + n ≡ run_start s v (p + 1)
unfolding run_start
start_more s v p first n e q = rw (e, q, sum_more p (λ k. count_at_of s (entry_at v k)))

pub polygons_none : (s : List ℕ) (v : ℕ) → all_below 0 (polygon_good s v) ≡ true
polygons_none s v = all_none (polygon_good s v)

pub polygons_more : (s : List ℕ) (v p at first : ℕ) (b : Bool) → at ≡ entry_at v p → first ≡ run_start s v p → b ≡ entry_good s v at first → b ≡ true →
    all_below p (polygon_good s v) ≡ true → all_below (p + 1) (polygon_good s v) ≡ true
unfolding polygon_good
polygons_more s v p at first b i e q t h = all_more p (polygon_good s v) h (rw (← i, ← e) (sym q ∙ t))

pub polygons_fail : (s : List ℕ) (v n p at first : ℕ) (b : Bool) → at ≡ entry_at v p → first ≡ run_start s v p → b ≡ entry_good s v at first → b ≡ false →
    p < n → false ≡ polygons_good s v n
unfolding polygons_good polygon_good
polygons_fail s v n p at first b i e q f l = sym (and_false_left _ _ (all_fails n (polygon_good s v) p l (rw (← i, ← e) (sym q ∙ f))))

pub polygons_all : (s : List ℕ) (v n p first : ℕ) → p ≤ n → n ≤ p → first ≡ run_start s v p → all_below p (polygon_good s v) ≡ true →
    eqb first v ≡ polygons_good s v n
unfolding polygons_good
polygons_all s v n p first a b e h = go p (le_antisymm a b) e h
  where
    go : (k : ℕ) → k ≡ n → first ≡ run_start s v k → all_below k (polygon_good s v) ≡ true → eqb first v ≡ (all_below n (polygon_good s v) && eqb (run_start s v n) v)
    go k same at all = rw (← same, all, ← at)

-- a good entry's run ends inside the vertex block
pub entry_run : (s : List ℕ) (v at first : ℕ) → entry_good s v at first ≡ true → run_good s v at first ≡ true
unfolding entry_good
entry_run s v at first h =
    and_left (run_good s v at first) (eqb (u32_at s (at + 20)) 0)
    (and_left (run_good s v at first && eqb (u32_at s (at + 20)) 0) (surface_good (u32_at s (at + 16)) s at) h)

pub entry_surface : (s : List ℕ) (v at first : ℕ) → entry_good s v at first ≡ true → surface_good (u32_at s (at + 16)) s at ≡ true
unfolding entry_good
entry_surface s v at first h = and_right (run_good s v at first && eqb (u32_at s (at + 20)) 0) (surface_good (u32_at s (at + 16)) s at) h

pub run_inside : (s : List ℕ) (v at first : ℕ) → run_good s v at first ≡ true → first + count_at_of s at ≤ v
unfolding run_good
run_inside s v at first h =
    leb-true _ _ (and_right (eqb (first_at s at) first && leb 3 (count_at_of s at) && leb (count_at_of s at) 64) (leb (first + count_at_of s at) v) h)

pub entry_inside : (s : List ℕ) (v at first n : ℕ) (b : Bool) → b ≡ entry_good s v at first → b ≡ true → n ≡ count_at_of s at → first + n ≤ v
entry_inside s v at first n b q t e =
    subst (λ (k : ℕ). first + k ≤ v) (sym e) (run_inside s v at first (entry_run s v at first (sym q ∙ t)))
