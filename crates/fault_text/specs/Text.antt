-- How messages write a length. Definitions only.
use Rattle.std.specs.Prelude.{cond, List, ◌++◌, ℕ, Float}
use Rattle.std.specs.Float.{binary64}
use Rattle.std.specs.Float.Ieee.{of_bits, lt}
use Rattle.num_text.specs.Put.{bytes}
use Rattle.num_text.specs.Decimal.{decimal_text}

-- the f64 0.1
abbrev pub tenth : Float
tenth = of_bits binary64 0x3fb9_9999_9999_999a

-- "A length below 0.1 mm is written with three decimals in every message; 0.1 and above keep two, so a gap of zero, of either sign, now prints 0.000.
-- Whether 0.1 is reached is tested on the f64 before rounding" (document 02, item 2)
unfoldable pub mm_places : Float → ℕ
mm_places x = cond (lt x tenth) 3 2

-- dfm.rs's `mm`, with these places
unfoldable pub mm : Float → List ℕ
mm x = decimal_text x (mm_places x) ++ bytes " mm"
