-- A direction of the file, normalized: its components are at most 1 in size. Its squared length is at least 0.25, so its length is at least 0.5.
use mathlib.Core.Path.{◌≡◌, refl, subst}
use mathlib.Core.Bool.{Bool, true, false, cond}
use mathlib.Core.List.{List}
use Prim.Native.Nat.{ℕ, ◌+◌}
use lib.Dec.{eqb, lit≤}
use lib.Ieee.{Float, binary64, lt, eq, le, of_bits}
use lib.Ieee.Bits.{of_bits-fits}
use Rattle.num_root.specs.Root.{root}
use Rattle.num_float.specs.Sign.{NonNeg}
use Rattle.num_float.proofs.Order.{le_trans}
use Rattle.num_norm.proofs.RootOrder.{root_mono}
use Rattle.num_norm.proofs.Component.{two_to_minus_484}
use Rattle.num_norm.proofs.Normalized.{normalized_1}
use Rattle.math.specs.declared.Vec3.{Vec3}
use Rattle.math.specs.Vector.{length_sq_of, length_of, normalized_of}
use Rattle.math.specs.Size.{VecWithin}
use Rattle.file_field.specs.Field.{u32_at, u64_at, f64_at, vec_at_of}
use Rattle.file_field.specs.Test.{quarter}
use Rattle.file_field.specs.Direction.{Directed}
use Rattle.file_part.specs.declared.read.SurfaceKind.TheVariants.{Plane, Cylinder, Revolved, Other}
use Rattle.file_part.specs.Part.{surface_of, surface_at}
use Rattle.solid_polygon.specs.Polygon.{half}
use Rattle.solid_sizes.specs.Sizes.{VecFits}
use Rattle.solid_sizes.specs.Work.{SurfaceFits}
use Rattle.solid_sizes.proofs.Vectors.{square_finite}

-- ---- what is read from the file is an f64
pub vec_at_fits : (s : List ℕ) (i : ℕ) → VecFits (vec_at_of s i)
unfolding vec_at_of f64_at
vec_at_fits s i = record { x_fits = of_bits-fits binary64 _; y_fits = of_bits-fits binary64 _; z_fits = of_bits-fits binary64 _ }

pub surface_fits : (s : List ℕ) (at : ℕ) → SurfaceFits (surface_at s at)
unfolding surface_at surface_of SurfaceFits
surface_fits s at = go (eqb (u32_at s (at + 16)) 0) (eqb (u32_at s (at + 16)) 1) (eqb (u32_at s (at + 16)) 2)
  where
    go : (a b c : Bool) → SurfaceFits
        (cond a Plane (cond b (Cylinder (vec_at_of s (at + 24)) (vec_at_of s (at + 48)) (f64_at s (at + 72)))
        (cond c (Revolved (vec_at_of s (at + 24)) (vec_at_of s (at + 48))) Other)))
    go true b c = tt
    go false true c = (vec_at_fits s (at + 24), vec_at_fits s (at + 48), unfold f64_at in of_bits-fits binary64 (u64_at s (at + 72)))
    go false false true = (vec_at_fits s (at + 24), vec_at_fits s (at + 48))
    go false false false = tt

-- ---- the length
root_quarter : root quarter ≡ half
unfolding root of_bits
root_quarter = refl

quarter_nonneg : NonNeg quarter
unfolding of_bits le lt eq
quarter_nonneg = refl

pub directed_length : (d : Vec3) → Directed d → le half (length_of d) ≡ true
unfolding length_of length_sq_of
directed_length d h = subst (λ (k : Float). le k (length_of d) ≡ true) root_quarter (root_mono quarter (length_sq_of d) quarter_nonneg h.square_from)

small_half : le two_to_minus_484 half ≡ true
unfolding of_bits le lt eq
small_half = refl

-- ---- normalized
pub normalized_within : (d : Vec3) → Directed d → VecFits d → VecWithin (normalized_of d) 1
unfolding normalized_of length_of
normalized_within d h f =
    let b = normalized_1 d.x d.y d.z f.x_fits f.y_fits f.z_fits (square_finite d 1 (lit≤ tt) h.sizes)
    (le_trans two_to_minus_484 half (length_of d) small_half (directed_length d h)) in
    record { x_within = b.at_x.within; y_within = b.at_y.within; z_within = b.at_z.within }
