-- What private functions leave on the way; a reader may pass over it. Definitions only.
use Rattle.std.specs.Prelude.{List, ℕ, ◌+◌, get_or, set, Float}
use Rattle.std.specs.Float.{nan}
use Rattle.math.specs.declared.Vec3.{Vec3}
use Rattle.math.specs.Vector.{vec, minus, length_sq_of}
use Rattle.solid_distance.specs.declared.kept.Segment.{Segment}

-- ---- beside Kept.antt
-- the segment from a to b
unfoldable pub segment_of : Vec3 → Vec3 → Segment
segment_of a b = record { start = a; way = minus b a; square = length_sq_of (minus b a) }

-- ---- in a list of numbers, seven from number i on: its start, the way to its end, and the square of its length
unfoldable pub segment_at_of : List Float → ℕ → Segment
segment_at_of l i =
    record {
      start = vec (get_or l i nan) (get_or l (i + 1) nan) (get_or l (i + 2) nan);
      way = vec (get_or l (i + 3) nan) (get_or l (i + 4) nan) (get_or l (i + 5) nan);
      square = get_or l (i + 6) nan;
    }

-- the numbers with s there
unfoldable pub put_segment : List Float → ℕ → Segment → List Float
put_segment l i s =
    set (set (set (set (set (set (set l
    i s.start.x) (i + 1) s.start.y) (i + 2) s.start.z) (i + 3) s.way.x)
    (i + 4) s.way.y) (i + 5) s.way.z) (i + 6) s.square
