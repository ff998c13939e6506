-- The frame of a round of an accepted part is short, and its origin near, so that the directions of its vertices can be packed.
use mathlib.Core.Path.{◌≡◌, refl, sym, subst}
use mathlib.Core.Bool.{Bool, true, false, cond}
use mathlib.Core.List.{List}
use Prim.Native.Nat.{ℕ, ◌+◌, ◌<◌}
use native.Mathlib.Omega.{arith}
use lib.Dec.{T, eqb}
use lib.Ieee.{binary64, fits}
use lib.Ieee.Bits.{of_bits-fits}
use Rattle.num_float.proofs.Tests.{contrary}
use Rattle.math.specs.declared.Vec3.{Vec3}
use Rattle.math.specs.Vector.{zero_vec}
use Rattle.file_field.specs.Field.{u32_at, f64_at, vec_at_of}
use Rattle.file_part.specs.declared.read.SurfaceKind.{SurfaceKind}
use Rattle.file_part.specs.declared.read.SurfaceKind.TheVariants.{Plane, Cylinder, Revolved, Other}
use Rattle.file_part.specs.Layout.{vertex_count_of, polygon_count_of, entry_at}
use Rattle.file_part.specs.Part.{part_of, surface_of, surface_at}
use Rattle.file_part.proofs.PartLaws.{part_polygons, part_surface}
use Rattle.file_ok.specs.Readable.{SurfaceWithin}
use Rattle.file_ok.specs.Work.{Readable}
use Rattle.file_ok.proofs.ReadableLaws.{readable_surface}
use Rattle.solid_faces.specs.Faces.{faces_of, first_polygon}
use Rattle.solid_faces.proofs.FaceLaws.{first_polygon_begins}
use Rattle.round_frame.specs.Frame.{frame_of}
use Rattle.round_frame.specs.Work.{Central}
use Rattle.round_frame.proofs.FrameLaws.{central}
use Rattle.round_all.specs.Round.{face_surface, is_cylinder, origin_of, dir_of, is_round, face_frame}

record VecFits (v : Vec3) : Type 0 where
  at_x : T (fits binary64 v.x)
  at_y : T (fits binary64 v.y)
  at_z : T (fits binary64 v.z)

zero_fits : VecFits zero_vec
unfolding zero_vec
zero_fits = record { at_x = of_bits-fits binary64 0; at_y = of_bits-fits binary64 0; at_z = of_bits-fits binary64 0 }

vec_fits : (s : List ℕ) (i : ℕ) → VecFits (vec_at_of s i)
unfolding vec_at_of f64_at
vec_fits s i = record { at_x = of_bits-fits binary64 _; at_y = of_bits-fits binary64 _; at_z = of_bits-fits binary64 _ }

dir_fits : (s : List ℕ) (at : ℕ) → VecFits (dir_of (surface_at s at))
unfolding surface_at surface_of dir_of
dir_fits s at = go (eqb (u32_at s (at + 16)) 0) (eqb (u32_at s (at + 16)) 1) (eqb (u32_at s (at + 16)) 2)
  where
    go : (a b c : Bool) →
        VecFits (dir_of (cond a Plane (cond b (Cylinder (vec_at_of s (at + 24)) (vec_at_of s (at + 48)) (f64_at s (at + 72))) (cond c (Revolved (vec_at_of s (at + 24)) (vec_at_of s (at + 48))) Other))))
    go true b c = zero_fits
    go false true c = vec_fits s (at + 48)
    go false false true = zero_fits
    go false false false = zero_fits

cylinder_central : (x : SurfaceKind) → is_cylinder x ≡ true → SurfaceWithin x → VecFits (dir_of x) → Central (frame_of (origin_of x) (dir_of x))
unfolding is_cylinder SurfaceWithin origin_of dir_of
cylinder_central (Cylinder o d r) h w f =
    let sizes = w.0.directed.sizes in
    central o d w.0.near
    (record {
      at_x = record { fit = f.at_x; within = sizes.x_within };
      at_y = record { fit = f.at_y; within = sizes.y_within };
      at_z = record { fit = f.at_z; within = sizes.z_within };
    })
cylinder_central Plane h w f = absurd (contrary h refl)
cylinder_central (Revolved o d) h w f = absurd (contrary h refl)
cylinder_central Other h w f = absurd (contrary h refl)

pub face_central : (s : List ℕ) (f : ℕ) → Readable s → f < faces_of (part_of s) → is_round (part_of s) f ≡ true → Central (face_frame (part_of s) f)
unfolding is_round face_frame face_surface
face_central s f h l r =
    let first = first_polygon (part_of s) f in
    let low : first < polygon_count_of s = omega (arith, (first_polygon_begins (part_of s) f l).below, part_polygons s) in
    let same = part_surface s first in
    cylinder_central _ r
    (subst SurfaceWithin (sym same) (readable_surface s h first low))
    (subst (λ (x : SurfaceKind). VecFits (dir_of x)) (sym same) (dir_fits s (entry_at (vertex_count_of s) first)))
