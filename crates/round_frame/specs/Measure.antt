-- Axis, length and centre of each face, in a list of numbers. Definitions only.
use Rattle.std.specs.Prelude.{List, ℕ, ◌+◌, ◌*◌, get_or, Float}
use Rattle.std.specs.Float.{nan}
use Rattle.math.specs.Vector.{vec}
use Rattle.round_frame.specs.declared.measure.Measure.{Measure}

-- seven numbers for each face: axis, length and centre
unfoldable pub measure_at : List Float → ℕ → Measure
measure_at l f =
    record {
      axis = vec (get_or l (7 * f) nan) (get_or l (7 * f + 1) nan) (get_or l (7 * f + 2) nan);
      length = get_or l (7 * f + 3) nan;
      centre = vec (get_or l (7 * f + 4) nan) (get_or l (7 * f + 5) nan) (get_or l (7 * f + 6) nan);
    }
