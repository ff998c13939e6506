-- `rule_flanges::legs::add_legs` meets its contract: the neighbours that are passed; one leg each at most, so there is room.
use Prim.Native.Nat.{◌-◌}
use Rattle.file_part.specs.Part.{part_of}
use Rattle.rule_flanges.proofs.WalkLaws.{LegsTo}
use Rattle.rule_flanges.proofs.legs.add_legs.Given as goal

abbrev pub invariant-loop-i : goal.invariant-loop-i
invariant-loop-i l = LegsTo (part_of l.file) l.sheet.thickness l.axis l.h l.n l.initial.legs l.end l.legs l.m l.i

abbrev pub decreases-loop-i : goal.decreases-loop-i
decreases-loop-i l = l.end - l.i
