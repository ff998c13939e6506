-- The size of a vector's components. Definitions only.
use Rattle.std.specs.Prelude.{ℕ}
use Rattle.num_norm.specs.num_float.specs.Within.{Within}
use Rattle.math.specs.declared.Vec3.{Vec3}

-- each component is finite, and at most b in size
pub record VecWithin (v : Vec3) (b : ℕ) : Type 0 where
  pub x_within : Within v.x b
  pub y_within : Within v.y b
  pub z_within : Within v.z b
