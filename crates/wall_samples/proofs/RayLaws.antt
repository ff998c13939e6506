-- The numbers of the ray from a polygon of a checked file, and of what it strikes: how large they are.
use mathlib.Core.Path.{◌≡◌}
use mathlib.Core.Bool.{true}
use Prim.Native.Nat.{ℕ}
use lib.Dec.{T, lit<, lit≤}
use lib.Ieee.{binary64, fits, neg, of_bits}
use lib.Ieee.Fits.{add-fits, mul-fits}
use Rattle.num_float.specs.Within.{Within, Beyond}
use Rattle.num_float.proofs.Within.{held_small}
use Rattle.math.specs.Vector.{one, plus, times, dot_of}
use Rattle.math.specs.Size.{VecWithin}
use Rattle.file_part.specs.Part.{Part}
use Rattle.solid_polygon.specs.Polygon.{centroid_of}
use Rattle.solid_faces.specs.Faces.{polygon_corner, polygon_plane}
use Rattle.solid_sizes.specs.Sizes.{VecFits, PlaneWithin}
use Rattle.solid_sizes.proofs.Vectors.{plus_within, times_within}
use Rattle.solid_sizes.proofs.Opposite.{dot_opposite, opposite_half}
use Rattle.wall_samples.specs.Samples.{e_6, polygon_centroid, inward, ray_of, faces_back}

-- ---- the constants
minus_one_within : Within (neg one) 1
unfolding neg of_bits
minus_one_within = record { is_finite = tt; size = lit≤ tt }

pub e_6_within : Within e_6 1
unfolding of_bits
e_6_within = record { is_finite = tt; size = lit≤ tt }

pub e_6_fits : T (fits binary64 e_6)
unfolding of_bits fits
e_6_fits = tt

-- ---- the ray from polygon p
module _ (t : Part) (p : ℕ) (from : PlaneWithin t p) where
  pub dir_within : VecWithin (inward t p) 1
  unfolding inward
  dir_within = times_within (polygon_plane t p).normal (neg one) 1 1 1 from.normal minus_one_within (lit≤ tt) (held_small 1 (lit< tt))

  pub dir_fits : VecFits (inward t p)
  unfolding inward times
  dir_fits = record { x_fits = mul-fits binary64 _ _; y_fits = mul-fits binary64 _ _; z_fits = mul-fits binary64 _ _ }

  pub origin_within : VecWithin (ray_of t p).origin 10002
  unfolding ray_of polygon_centroid
  origin_within =
      plus_within (centroid_of (polygon_corner t p) (t.polygon p).count) (times (inward t p) e_6) 10001 1 10002 from.centroid
      (times_within (inward t p) e_6 1 1 1 dir_within e_6_within (lit≤ tt) (held_small 1 (lit< tt))) (lit≤ tt) (held_small 10002 (lit< tt))

  pub origin_fits : VecFits (ray_of t p).origin
  unfolding ray_of plus
  origin_fits = record { x_fits = add-fits binary64 _ _; y_fits = add-fits binary64 _ _; z_fits = add-fits binary64 _ _ }

  -- a hit at polygon q that faces back, with a dot under -0.5: the ray's own denominator is at least 0.5 in size
  pub denominator_beyond : (q : ℕ) → PlaneWithin t q → faces_back t p q ≡ true → Beyond (dot_of (polygon_plane t q).normal (inward t p)) 2
  unfolding faces_back inward
  denominator_beyond q to h =
      opposite_half (dot_of (polygon_plane t q).normal (polygon_plane t p).normal) (dot_of (polygon_plane t q).normal (times (polygon_plane t p).normal (neg one)))
      (dot_opposite (polygon_plane t q).normal (polygon_plane t p).normal 1 1 1 2 3 to.normal from.normal
      from.normal_fits.x_fits from.normal_fits.y_fits from.normal_fits.z_fits
      (lit≤ tt) (held_small 1 (lit< tt)) (lit≤ tt) (held_small 2 (lit< tt)) (lit≤ tt) (held_small 3 (lit< tt))) h
