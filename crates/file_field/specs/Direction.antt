-- What is known of a direction that passed its test. Definitions only.
use Rattle.std.specs.Prelude.{◌≡◌, true}
use Rattle.std.specs.Float.Ieee.{le}
use Rattle.math.specs.declared.Vec3.{Vec3}
use Rattle.math.specs.Vector.{length_sq_of}
use Rattle.math.specs.Size.{VecWithin}
use Rattle.file_field.specs.Test.{quarter, four}

-- components of at most 2, a squared length from 0.25 to 4
pub record Directed (d : Vec3) : Type 0 where
  pub sizes : VecWithin d 2
  pub square_from : le quarter (length_sq_of d) ≡ true
  pub square_to : le (length_sq_of d) four ≡ true
