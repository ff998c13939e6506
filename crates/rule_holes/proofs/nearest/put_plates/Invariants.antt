-- `rule_holes::nearest::put_plates` meets its contract: the flat faces that are met are marked.
use mathlib.Core.Path.{◌≡◌}
use Prim.Native.Nat.{◌-◌}
use lib.ListN.{length}
use Rattle.file_part.specs.Part.{part_of}
use Rattle.rule_holes.proofs.NearestLaws.{PlatesTo}
use Rattle.rule_holes.proofs.nearest.put_plates.Given as goal

abbrev pub invariant-loop-i : goal.invariant-loop-i
invariant-loop-i l = PlatesTo (part_of l.file) l.h l.i l.end l.plates × (length l.plates ≡ length l.initial.plates)

abbrev pub decreases-loop-i : goal.decreases-loop-i
decreases-loop-i l = l.end - l.i
