-- The lesser of two floats, as a running minimum chooses it. Definitions only.
use Rattle.std.specs.Prelude.{cond, Float}
use Rattle.std.specs.Float.Ieee.{lt}

-- x where it is strictly less, and else a: a tie, of both zeros too, and a NaN in x leave a
abbrev pub lesser : Float → Float → Float
lesser a x = cond (lt x a) x a
