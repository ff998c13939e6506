-- `rule_holes::nearest::with_plate` meets its contract: a tour of the face's neighbours.
use Prim.Native.Nat.{◌-◌}
use Rattle.file_part.specs.Part.{part_of}
use Rattle.rule_holes.specs.Nearest.{gap_to}
use Rattle.rule_holes.proofs.NearestLaws.{NearestTo}
use Rattle.rule_holes.proofs.nearest.with_plate.Given as goal

abbrev pub invariant-loop-i : goal.invariant-loop-i
invariant-loop-i l = NearestTo (part_of l.file) l.plate (gap_to (part_of l.file) l.hole l.plate) l.i l.end l.initial.nearest l.nearest

abbrev pub decreases-loop-i : goal.decreases-loop-i
decreases-loop-i l = l.end - l.i
