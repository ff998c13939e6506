-- What laws speak of on the way; a reader may pass over it. Definitions only.
use Rattle.std.specs.Prelude.{List, [], ◌∷◌, Float}
use Rattle.num_float.specs.Work.{greater}
use Rattle.num_norm.specs.Length.{squared}
use Rattle.num_norm.specs.Least.{Vec}

-- ---- beside Least.antt
-- a, and in turn each element that is strictly greater
unfoldable pub greatest : Float → List Float → Float
greatest a [] = a
greatest a (x ∷ xs) = greatest (greater a x) xs

-- the squared length of each
unfoldable pub squares : List Vec → List Float
squares [] = []
squares (v ∷ vs) = squared v.x v.y v.z ∷ squares vs
