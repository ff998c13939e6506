-- What private functions leave on the way; a reader may pass over it. Definitions only.
use Rattle.std.specs.Prelude.{◌≡◌, List, ℕ, ◌≤◌, ◌+◌, ◌*◌, length, set, Float}
use Rattle.math.specs.Size.{VecWithin}
use Rattle.round_hole.specs.declared.direction.Direction.{Direction}
use Rattle.round_hole.specs.Work.{directions_in}
use Rattle.round_frame.specs.declared.frame.Frame.{Frame}
use Rattle.round_frame.specs.declared.measure.Measure.{Measure}

-- ---- directions put into cells, one after another
-- the first n of the cells have these directions; n is at most a bound, and there are as many cells as before
pub record DirectionsPut (before cells : List Float) (most n : ℕ) (directions : List Direction) : Type 0 where
  pub held : directions_in n cells ≡ directions
  pub few : n ≤ most
  pub long : length cells ≡ length before

-- ---- the frame of an accepted cylinder: vertices lie within 20,000 of its origin, and x and y are short, so that offsets are
pub record Central (a : Frame) : Type 0 where
  pub near : VecWithin a.origin 10000
  pub x_short : VecWithin a.x 2
  pub y_short : VecWithin a.y 8

-- ---- beside Measure.antt
-- the numbers with m as those of face f
unfoldable pub put_measure_of : List Float → ℕ → Measure → List Float
put_measure_of l f m =
    set (set (set (set (set (set (set l
    (7 * f) m.axis.x) (7 * f + 1) m.axis.y) (7 * f + 2) m.axis.z) (7 * f + 3) m.length)
    (7 * f + 4) m.centre.x) (7 * f + 5) m.centre.y) (7 * f + 6) m.centre.z
