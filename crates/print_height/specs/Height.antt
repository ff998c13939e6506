-- The heights of a part along its build direction, as dfm.rs's `printing` finds them. Definitions only.
-- The polygons' vertices follow each other in the file and use up all of it (refusals 6 and 7), so that all vertices in their order are those of all
-- polygons in theirs.
use Rattle.std.specs.Prelude.{ℕ, zero, suc, Float}
use Rattle.std.specs.Float.{binary64}
use Rattle.std.specs.Float.Ieee.{sub}
use Rattle.math.specs.declared.Vec3.{Vec3}
use Rattle.math.specs.Vector.{dot_of, normalized_of}
use Rattle.file_part.specs.Part.{Part}
use Rattle.round_frame.specs.declared.extent.Extent.{Extent}
use Rattle.round_frame.specs.Frame.{nowhere, reach}

-- `print.up.normalized()`
unfoldable pub up_of : Part → Vec3
up_of t = normalized_of t.job.print.up

-- `heights.fold(..)`: the lowest and the highest of the vertices below n
unfoldable pub heights_to : Part → Vec3 → ℕ → Extent
heights_to t up zero = nowhere
heights_to t up (suc i) = reach (heights_to t up i) (dot_of (t.vertex i) up)

-- `(base, top)`
unfoldable pub heights_of : Part → Extent
heights_of t = heights_to t (up_of t) t.vertices

-- `top - base`
unfoldable pub height_of : Part → Float
height_of t = sub binary64 (heights_of t).hi (heights_of t).lo
