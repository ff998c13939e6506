-- The surface of a face: a cylinder, or another one, in the words of a `match` on it.
use mathlib.Core.Path.{◌≡◌, refl, sym, ap, ◌∙◌}
use mathlib.Core.Bool.{true, false}
use mathlib.Core.Logic.{◌⊎◌, inl, inr}
use Prim.Native.Nat.{ℕ}
use native.Mathlib.Omega.{arith}
use lib.Ieee.{Float}
use denote.Enum.Declared.{tag_of}
use Rattle.math.specs.declared.Vec3.{Vec3}
use Rattle.math.specs.Vector.{zero_vec}
use Rattle.math.specs.Vector as vector
use Rattle.file_part.specs.declared.read.SurfaceKind.{SurfaceKind}
use Rattle.file_part.specs.declared.read.SurfaceKind.TheVariants.{Plane, Cylinder, Revolved, Other}
use Rattle.file_part.specs.Part.{Part}
use Rattle.file_part.specs.contracts.read.SurfaceKind as surface-kind
use Rattle.round_frame.specs.declared.frame.Frame.{Frame}
use Rattle.round_frame.specs.Frame.{frame_of}
use Rattle.round_all.specs.Round.{face_surface, is_cylinder, origin_of, dir_of, radius_of, is_round, face_frame}

-- its place among the variants, which is what a `match` knows; a cylinder's is 1
abbrev place : SurfaceKind → ℕ
place x = tag_of surface-kind.the_type x

abbrev Others : SurfaceKind → Type 0
Others x = (place x ≡ 0) ⊎ ((place x ≡ 2) ⊎ (place x ≡ 3))

none_of : (k : ℕ) → (k ≡ 0) ⊎ ((k ≡ 2) ⊎ (k ≡ 3)) → k ≡ 1 → ⊥
none_of k (inl e) h = omega (arith, e, h)
none_of k (inr (inl e)) h = omega (arith, e, h)
none_of k (inr (inr e)) h = omega (arith, e, h)

pub origin_cylinder : (x : SurfaceKind) (o d : Vec3) (r : Float) → x ≡ Cylinder o d r → o ≡ origin_of x
unfolding origin_of
origin_cylinder x o d r e = rw (e)

pub origin_other : (x : SurfaceKind) → Others x → zero_vec ≡ origin_of x
unfolding origin_of
origin_other Plane h = refl
origin_other (Cylinder o d r) h = absurd (none_of _ h refl)
origin_other (Revolved o d) h = refl
origin_other Other h = refl

pub radius_cylinder : (x : SurfaceKind) (o d : Vec3) (r : Float) → x ≡ Cylinder o d r → r ≡ radius_of x
unfolding radius_of
radius_cylinder x o d r e = rw (e)

pub radius_other : (x : SurfaceKind) → Others x → vector.zero ≡ radius_of x
unfolding radius_of
radius_other Plane h = refl
radius_other (Cylinder o d r) h = absurd (none_of _ h refl)
radius_other (Revolved o d) h = refl
radius_other Other h = refl

no_cylinder : (x : SurfaceKind) → Others x → is_cylinder x ≡ false
unfolding is_cylinder
no_cylinder Plane h = refl
no_cylinder (Cylinder o d r) h = absurd (none_of _ h refl)
no_cylinder (Revolved o d) h = refl
no_cylinder Other h = refl

pub round_is : (t : Part) (f : ℕ) (x : SurfaceKind) (o d : Vec3) (r : Float) → x ≡ face_surface t f → x ≡ Cylinder o d r → is_round t f ≡ true
unfolding is_round is_cylinder
round_is t f x o d r e c = ap is_cylinder (sym e ∙ c)

pub frame_is : (t : Part) (f : ℕ) (x : SurfaceKind) (o d : Vec3) (r : Float) (a : Frame) → x ≡ face_surface t f → x ≡ Cylinder o d r → a ≡ frame_of o d → a ≡ face_frame t f
unfolding face_frame origin_of dir_of
frame_is t f x o d r a e c h = h ∙ ap (λ (y : SurfaceKind). frame_of (origin_of y) (dir_of y)) (sym c ∙ e)

pub round_none : (t : Part) (f : ℕ) (x : SurfaceKind) → x ≡ face_surface t f → Others x → is_round t f ≡ false
unfolding is_round
round_none t f x e h = ap is_cylinder (sym e) ∙ no_cylinder x h
