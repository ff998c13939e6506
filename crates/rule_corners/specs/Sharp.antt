-- The rule `Sharp inside corner` of dfm.rs's `machining`. Definitions only.
use Rattle.std.specs.Prelude.{Bool, ◌||◌, cond, List, [], ◌∷◌, ℕ, Float}
use Rattle.std.specs.Float.{binary64}
use Rattle.std.specs.Float.Ieee.{div, of_bits}
use Rattle.num_real.specs.Select.{max_of}
use Rattle.math.specs.Vector.{plus, times}
use Rattle.file_part.specs.Part.{Part}
use Rattle.wall_ray.specs.Nearest.{is_open}
use Rattle.fault_row.specs.declared.flaw.Flaw.{Flaw}
use Rattle.fault_row.specs.declared.flaw.Flaw.TheVariants.{SharpInsideCorner}
use Rattle.fault_text.specs.Machining.{min_mill_radius}
use Rattle.rule_corners.specs.declared.corner.Corner.{Corner}
use Rattle.rule_corners.specs.Corners.{corner_of_word, over_corners}

-- `step`: the f64 1e-3
abbrev pub thousandth : Float
thousandth = of_bits binary64 0x3f50_624d_d2f1_a9fc

-- the f64 6.0
abbrev pub six : Float
six = of_bits binary64 0x4018_0000_0000_0000

-- `part.open_towards(mid + nb * step, na) || part.open_towards(mid + na * step, nb)`: na is the normal of the lower id, nb that of the higher
unfoldable pub is_reached : Part → Corner → Bool
is_reached t c =
    is_open t (plus c.mid (times c.high thousandth)) c.low || is_open t (plus c.mid (times c.low thousandth)) c.high

-- `MIN_MILL_RADIUS.max(length / 6.0)`
unfoldable pub fillet_of : Float → Float
fillet_of length = max_of min_mill_radius (div binary64 length six)

-- of the corners between faces f and g; none where a tool reaches them
unfoldable pub sharp_corner : Part → ℕ → ℕ → Corner → List Flaw
sharp_corner t f g c = cond (is_reached t c) [] (SharpInsideCorner f g c.length (fillet_of c.length) ∷ [])

-- all of them, by rising ids
unfoldable pub sharp_corners : Part → List Flaw
sharp_corners t = over_corners t (λ f g l. sharp_corner t f g (corner_of_word t l))
