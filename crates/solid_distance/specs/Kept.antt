-- A segment as it is kept for many points. Definitions only.
use Rattle.std.specs.Prelude.{Float}
use Rattle.math.specs.declared.Vec3.{Vec3}
use Rattle.math.specs.Vector.{plus, minus, times, length_sq_of}
use Rattle.solid_distance.specs.declared.kept.Segment.{Segment}
use Rattle.solid_distance.specs.Segment.{along}

-- the squared distance of p from a segment that is kept. `square_is` of the laws: from the segment from a to b it is that of `nearest_on`, the same f64
unfoldable pub square_to_of : Vec3 → Segment → Float
square_to_of p s = length_sq_of (minus (plus s.start (times s.way (along p s.start s.way s.square))) p)
