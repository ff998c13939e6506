-- The sizes of a round. Definitions only.
use Rattle.std.specs.Prelude.{◌≡◌, true, ◌^◌, Float}
use Rattle.std.specs.Float.{binary64}
use Rattle.std.specs.Float.Ieee.{mul, div, lt, le}
use Rattle.num_float.specs.Sign.{NonNeg}
use Rattle.num_float.specs.Within.{Within}
use Rattle.math.specs.Vector as vector
use Rattle.math.specs.Size.{VecWithin}
use Rattle.file_field.specs.Test.{two, ten_thousand}
use Rattle.file_job_ok.specs.Rules.{thousandth}
use Rattle.round_all.specs.declared.round.Round.{Round}

-- `2.0 * r.radius`
unfoldable pub diameter_of : Round → Float
diameter_of r = mul binary64 two r.radius

-- `r.length / d`
unfoldable pub ratio_of : Round → Float
ratio_of r = div binary64 r.length (diameter_of r)

-- every number that a message prints of a round is finite, not negative, and far below 2^60
pub record RoundBounds (r : Round) : Type 0 where
  pub origin : VecWithin r.origin 10000
  pub axis : VecWithin r.axis 1
  pub centre : VecWithin r.centre (2 ^ 17)
  pub radius_from : le thousandth r.radius ≡ true
  pub radius_to : le r.radius ten_thousand ≡ true
  pub radius_within : Within r.radius 10000
  pub radius_nonneg : NonNeg r.radius
  pub diameter_within : Within (diameter_of r) 20000
  pub diameter_nonneg : NonNeg (diameter_of r)
  pub diameter_positive : lt vector.zero (diameter_of r) ≡ true
  pub length_within : Within r.length (2 ^ 17)
  pub length_nonneg : NonNeg r.length
  pub ratio_within : Within (ratio_of r) (2 ^ 27)
  pub ratio_nonneg : NonNeg (ratio_of r)
