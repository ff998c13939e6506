-- What private functions leave on the way; a reader may pass over it. Definitions only.
use Rattle.std.specs.Prelude.{◌≡◌, ℕ, ◌/◌, ◌%◌}

-- ---- between the parts of the writer
-- n divided by d
pub record Divided (n d quotient rest : ℕ) : Type 0 where
  pub quotient_is : quotient ≡ n / d
  pub rest_is : rest ≡ n % d
