-- Rust's `min`, `max` and `abs` of f64. Definitions only.
use Rattle.std.specs.Prelude.{false, ◌||◌, cond, Float}
use Rattle.std.specs.Float.{nan, inf, fin}
use Rattle.std.specs.Float.Ieee.{lt, is_nan}

-- `a.min(b)`: the smaller of two, and of a NaN and another value that value. The first stays unless the second is
-- strictly less, so that of two zeros it is the first, whatever their signs.
unfoldable pub min_of : Float → Float → Float
min_of a b = cond (is_nan a || lt b a) b a

-- `a.max(b)`: the same for the larger. The first stays unless the second is strictly greater.
unfoldable pub max_of : Float → Float → Float
max_of a b = cond (is_nan a || lt a b) b a

-- `x.abs()`: the value with its sign cleared, that of minus zero too. A NaN stays one.
unfoldable pub abs_of : Float → Float
abs_of nan = nan
abs_of (inf s) = inf false
abs_of (fin s m e) = fin false m e
