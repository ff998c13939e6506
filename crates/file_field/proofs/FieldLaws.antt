-- What the tests of single fields give: the two comparisons, and bounds on the size.
use mathlib.Core.Path.{◌≡◌}
use mathlib.Core.Bool.{Bool, true, ◌&&◌}
use Prim.Native.Nat.{ℕ}
use lib.Dec.{lit≤}
use lib.Ieee.{Float, of_bits, neg, le}
use Rattle.math.specs.num_float.specs.Within.{Within}
use Rattle.math.specs.num_float.specs.Sign.{NonNeg}
use Rattle.math.specs.num_float.proofs.Tests.{and_left, and_right}
use Rattle.math.specs.num_float.proofs.NonNegative.{nonneg_above}
use Rattle.math.specs.num_float.proofs.Within.{neg_within, tested_within}
use Rattle.math.specs.declared.Vec3.{Vec3}
use Rattle.math.specs.Vector.{length_sq_of}
use Rattle.math.specs.Size.{VecWithin}
use Rattle.file_field.specs.Test.{in_range, all_within, is_direction, is_point, quarter, two, four, ten_thousand}
use Rattle.file_field.specs.Direction.{Directed}

-- ---- a field in its range
pub in_range_from : (lo x hi : Float) → in_range lo x hi ≡ true → le lo x ≡ true
unfolding in_range
in_range_from lo x hi h = and_left (le lo x) (le x hi) h

pub in_range_to : (lo x hi : Float) → in_range lo x hi ≡ true → le x hi ≡ true
unfolding in_range
in_range_to lo x hi h = and_right (le lo x) (le x hi) h

pub in_range_within : (lo x hi : Float) (b : ℕ) → in_range lo x hi ≡ true → Within lo b → Within hi b → Within x b
in_range_within lo x hi b h = tested_within lo x hi b (in_range_from lo x hi h) (in_range_to lo x hi h)

pub in_range_nonneg : (lo x hi : Float) → in_range lo x hi ≡ true → NonNeg lo → NonNeg x
in_range_nonneg lo x hi h n = nonneg_above lo x n (in_range_from lo x hi h)

-- ---- a vector
pub all_within_lem : (v : Vec3) (most : Float) (b : ℕ) → all_within v most ≡ true → Within most b → VecWithin v b
unfolding all_within
all_within_lem v most b h w = record {
  x_within = each v.x (and_left _ _ both);
  y_within = each v.y (and_right (ranged v.x) _ both);
  z_within = each v.z (and_right (ranged v.x && ranged v.y) _ h);
}
  where
    ranged : Float → Bool
    ranged c = in_range (neg most) c most

    both : (ranged v.x && ranged v.y) ≡ true
    both = and_left _ _ h

    each : (c : Float) → in_range (neg most) c most ≡ true → Within c b
    each c p = in_range_within (neg most) c most b p (neg_within most b w) w

-- the ends of the ranges
pub two_within : Within two 2
unfolding of_bits
two_within = record { is_finite = tt; size = lit≤ tt }

pub ten_thousand_within : Within ten_thousand 10000
unfolding of_bits
ten_thousand_within = record { is_finite = tt; size = lit≤ tt }

-- ---- a direction
pub directed : (v : Vec3) → is_direction v ≡ true → Directed v
unfolding is_direction
directed v h =
    let square = and_right (all_within v two) (in_range quarter (length_sq_of v) four) h in
    record {
      sizes = all_within_lem v two 2 (and_left _ _ h) two_within;
      square_from = in_range_from quarter (length_sq_of v) four square;
      square_to = in_range_to quarter (length_sq_of v) four square;
    }

-- ---- a point
pub point_within : (v : Vec3) → is_point v ≡ true → VecWithin v 10000
unfolding is_point
point_within v h = all_within_lem v ten_thousand 10000 h ten_thousand_within
