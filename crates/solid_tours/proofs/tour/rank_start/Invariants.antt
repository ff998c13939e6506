-- `solid_tours::tour::rank_start` meets its contract: the place is between the two ends.
use Prim.Native.Nat.{◌*◌, ◌-◌, ◌≤◌}
use Rattle.file_part.specs.Part.{part_of}
use Rattle.solid_faces.specs.Faces.{faces_of}
use Rattle.solid_tours.specs.Work.Kept.{item_count, key_start}
use Rattle.solid_tours.proofs.tour.rank_start.Given as goal

abbrev pub invariant-loop-low : goal.invariant-loop-low
invariant-loop-low l = (l.low ≤ key_start (part_of l.file) (l.r * faces_of (part_of l.file))) × (key_start (part_of l.file) (l.r * faces_of (part_of l.file)) ≤ l.high) × (l.high ≤ item_count (part_of l.file))

abbrev pub decreases-loop-low : goal.decreases-loop-low
decreases-loop-low l = l.high - l.low
