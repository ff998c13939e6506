-- The least of some floats, by a running minimum; the roots of some floats; the lengths of some vectors. Definitions only.
use Rattle.std.specs.Prelude.{List, [], ◌∷◌, Float}
use Rattle.num_root.specs.Root.{root}
use Rattle.num_float.specs.Order.{lesser}
use Rattle.num_norm.specs.Length.{length}

-- a, and in turn each element that is strictly less
unfoldable pub least : Float → List Float → Float
least a [] = a
least a (x ∷ xs) = least (lesser a x) xs

-- the root of each
unfoldable pub roots : List Float → List Float
roots [] = []
roots (x ∷ xs) = root x ∷ roots xs

-- a vector (x, y, z)
pub record Vec : Type 0 where
  pub x : Float
  pub y : Float
  pub z : Float

-- the length of each
unfoldable pub lengths : List Vec → List Float
lengths [] = []
lengths (v ∷ vs) = length v.x v.y v.z ∷ lengths vs
