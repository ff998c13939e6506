-- The test of a surface's fields, kind by kind, in the words of the code's `match`, and what a surface has that passes it.
use mathlib.Core.Path.{◌≡◌, subst}
use mathlib.Core.Bool.{Bool, true, false, ◌&&◌}
use mathlib.Core.Logic.{◌⊎◌, inl, inr}
use mathlib.Core.List.{List}
use Prim.Native.Nat.{ℕ, zero, suc, ◌+◌}
use native.Mathlib.Omega.{arith}
use borrow.Author.Tests.{ne_eqb}
use Rattle.num_float.proofs.Tests.{and_left, and_right}
use Rattle.file_part.specs.file_field.specs.Field.{u32_at, f64_at, vec_at_of}
use Rattle.file_part.specs.file_field.specs.Test.{in_range, is_point, is_direction, ten_thousand, zero_words}
use Rattle.file_part.specs.file_field.proofs.FieldLaws.{in_range_from, in_range_to, directed, point_within}
use Rattle.file_job_ok.specs.Rules.{thousandth}
use Rattle.file_part.specs.declared.read.SurfaceKind.TheVariants.{Other}
use Rattle.file_part.specs.Part.{surface_of, surface_at}
use Rattle.file_ok.specs.Rules.{axis_good, radius_good, surface_good}
use Rattle.file_ok.specs.Readable.{Axis, SurfaceWithin}

-- ---- the test of its fields
pub good_flat : (s : List ℕ) (at n : ℕ) (r : Bool) → (n ≡ 0) ⊎ (n ≡ 3) → r ≡ zero_words s (at + 24) 7 → r ≡ surface_good n s at
unfolding surface_good
good_flat s at n r (inl z) q = rw (q, z)
good_flat s at n r (inr z) q = rw (q, z)

pub good_cylinder : (s : List ℕ) (at n : ℕ) (a b : Bool) → n ≡ 1 → a ≡ axis_good s at → b ≡ radius_good s at → (a && b) ≡ surface_good n s at
unfolding surface_good
good_cylinder s at n a b z p q = rw (p, q, z)

pub good_revolved : (s : List ℕ) (at n : ℕ) (a b : Bool) → n ≡ 2 → a ≡ axis_good s at → b ≡ zero_words s (at + 72) 1 → (a && b) ≡ surface_good n s at
unfolding surface_good
good_revolved s at n a b z p q = rw (p, q, z)

pub good_none : (s : List ℕ) (at n : ℕ) → ((n ≡ 0) ⊎ (n ≡ 3) → ⊥) → (n ≡ 1 → ⊥) → (n ≡ 2 → ⊥) → false ≡ surface_good n s at
unfolding surface_good
good_none s at n a b c = rw (ne_eqb n 0 (λ z. a (inl z)), ne_eqb n 3 (λ z. a (inr z)), ne_eqb n 1 b, ne_eqb n 2 c)

-- ---- what a good surface says of its numbers
axis : (s : List ℕ) (at : ℕ) (b : Bool) → (axis_good s at && b) ≡ true → Axis (vec_at_of s (at + 24)) (vec_at_of s (at + 48))
unfolding axis_good
axis s at b h =
    let both = and_left (is_point (vec_at_of s (at + 24)) && is_direction (vec_at_of s (at + 48))) b h in
    record {
      near = point_within (vec_at_of s (at + 24)) (and_left (is_point (vec_at_of s (at + 24))) (is_direction (vec_at_of s (at + 48))) both);
      directed = directed (vec_at_of s (at + 48)) (and_right (is_point (vec_at_of s (at + 24))) (is_direction (vec_at_of s (at + 48))) both);
    }

kind_within : (s : List ℕ) (at k : ℕ) → surface_good k s at ≡ true → SurfaceWithin (surface_of k s at)
unfolding surface_good surface_of SurfaceWithin radius_good
kind_within s at zero h = tt
kind_within s at (suc zero) h =
    let radius = and_right (axis_good s at) (in_range thousandth (f64_at s (at + 72)) ten_thousand) h in
    (axis s at _ h, in_range_from thousandth (f64_at s (at + 72)) ten_thousand radius, in_range_to thousandth (f64_at s (at + 72)) ten_thousand radius)
kind_within s at (suc (suc zero)) h = axis s at (zero_words s (at + 72) 1) h
kind_within s at (suc (suc (suc n))) h = subst SurfaceWithin (other n) tt
  where
    other : (n : ℕ) → Other ≡ surface_of (suc (suc (suc n))) s at
    other n = rw (ne_eqb (suc (suc (suc n))) 0 (λ e. omega (arith, e)), ne_eqb (suc (suc (suc n))) 1 (λ e. omega (arith, e)), ne_eqb (suc (suc (suc n))) 2 (λ e. omega (arith, e)))

pub surface_within : (s : List ℕ) (at : ℕ) → surface_good (u32_at s (at + 16)) s at ≡ true → SurfaceWithin (surface_at s at)
unfolding surface_at
surface_within s at h = kind_within s at (u32_at s (at + 16)) h
