-- `rule_holes::nearest::nearest_of` meets its contract: a tour of the hole's neighbours.
use Prim.Native.Nat.{◌-◌}
use Rattle.file_part.specs.Part.{part_of}
use Rattle.std.proofs.Common.{None}
use Rattle.rule_holes.specs.Nearest.{gaps_from}
use Rattle.rule_holes.proofs.NearestLaws.{NearestTo}
use Rattle.rule_holes.proofs.nearest.nearest_of.Given as goal

abbrev pub invariant-loop-i : goal.invariant-loop-i
invariant-loop-i l = NearestTo (part_of l.file) l.h (gaps_from (part_of l.file) l.hole) l.i l.end None l.nearest

abbrev pub decreases-loop-i : goal.decreases-loop-i
decreases-loop-i l = l.end - l.i
