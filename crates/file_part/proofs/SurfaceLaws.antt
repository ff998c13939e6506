-- The surface of a polygon, kind by kind, in the words of the code's `match`.
use mathlib.Core.Path.{◌≡◌, sym, ap, ◌∙◌}
use mathlib.Core.List.{List}
use Prim.Native.Nat.{ℕ, ◌+◌}
use borrow.Author.Tests.{ne_eqb}
use lib.Ieee.{Float}
use Rattle.file_job.specs.math.specs.declared.Vec3.{Vec3}
use Rattle.file_job.specs.file_field.specs.Field.{u32_at, f64_at, vec_at_of}
use Rattle.file_part.specs.declared.read.SurfaceKind.TheVariants.{Plane, Cylinder, Revolved, Other}
use Rattle.file_part.specs.Part.{surface_of, surface_at}

pub surface_plane : (s : List ℕ) (at n : ℕ) → n ≡ u32_at s (at + 16) → n ≡ 0 → Plane ≡ surface_at s at
unfolding surface_at surface_of
surface_plane s at n e z = ap (λ (k : ℕ). surface_of k s at) (sym z ∙ e)

pub surface_cylinder : (s : List ℕ) (at n : ℕ) (o d : Vec3) (r : Float) →
    n ≡ u32_at s (at + 16) → n ≡ 1 → o ≡ vec_at_of s (at + 24) → d ≡ vec_at_of s (at + 48) → r ≡ f64_at s (at + 72) → Cylinder o d r ≡ surface_at s at
unfolding surface_at surface_of
surface_cylinder s at n o d r e z i j k = rw (i, j, k, ← e, z)

pub surface_revolved : (s : List ℕ) (at n : ℕ) (o d : Vec3) →
    n ≡ u32_at s (at + 16) → n ≡ 2 → o ≡ vec_at_of s (at + 24) → d ≡ vec_at_of s (at + 48) → Revolved o d ≡ surface_at s at
unfolding surface_at surface_of
surface_revolved s at n o d e z i j = rw (i, j, ← e, z)

pub surface_other : (s : List ℕ) (at n : ℕ) → n ≡ u32_at s (at + 16) → (n ≡ 0 → ⊥) → (n ≡ 1 → ⊥) → (n ≡ 2 → ⊥) → Other ≡ surface_at s at
unfolding surface_at surface_of
surface_other s at n e a b c = rw (← e, ne_eqb n 0 a, ne_eqb n 1 b, ne_eqb n 2 c)
